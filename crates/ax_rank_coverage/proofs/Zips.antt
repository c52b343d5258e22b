-- Lists whose items are related place by place.
use Rattle.std.proofs.Common.{◌≡◌, ℕ, zero, suc, ◌+◌, ◌<◌, List, [], ◌∷◌, ◌++◌, length, take, get_or, ap, sym, subst, ◌∙◌, arith}
use Rattle.std.specs.List.{AllZip}
use Rattle.std.proofs.lemmas.List.{take_more}

module _ {A B : Type 0} (R : A → B → Type 0) where
  pub zip-length : (xs : List A) (ys : List B) → AllZip R xs ys → length xs ≡ length ys
  zip-length [] [] h = omega arith
  zip-length [] (y ∷ ys) h = absurd h
  zip-length (x ∷ xs) [] h = absurd h
  zip-length (x ∷ xs) (y ∷ ys) h = let behind = zip-length xs ys h.1 in omega arith

  pub zip-get : (xs : List A) (ys : List B) (i : ℕ) (d : A) (e : B) → AllZip R xs ys → i < length xs → R (get_or xs i d) (get_or ys i e)
  zip-get [] ys i d e h l = absurd (omega (arith, l))
  zip-get (x ∷ xs) [] i d e h l = absurd h
  zip-get (x ∷ xs) (y ∷ ys) zero d e h l = h.0
  zip-get (x ∷ xs) (y ∷ ys) (suc i) d e h l = zip-get xs ys i d e h.1 (omega (arith, l))

  zip-push : (xs : List A) (ys : List B) (x : A) (y : B) → AllZip R xs ys → R x y → AllZip R (xs ++ x ∷ []) (ys ++ y ∷ [])
  zip-push [] [] x y h r = (r, tt)
  zip-push [] (z ∷ ys) x y h r = absurd h
  zip-push (z ∷ xs) [] x y h r = absurd h
  zip-push (z ∷ xs) (w ∷ ys) x y h r = (h.0, zip-push xs ys x y h.1 r)

  -- one item more
  pub zip-more : (xs : List A) (ys : List B) (i : ℕ) (x : A) (y : B) → i < length xs → x ≡ get_or xs i x → AllZip R (take i xs) ys → R x y
      → AllZip R (take (i + 1) xs) (ys ++ y ∷ [])
  zip-more xs ys i x y lt is h r =
      subst (λ (l : List A). AllZip R l (ys ++ y ∷ [])) (ap (λ (z : A). take i xs ++ z ∷ []) is ∙ sym (take_more xs i x lt))
      (zip-push (take i xs) ys x y h r)
