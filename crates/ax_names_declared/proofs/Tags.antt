-- The place of a tag among the tags of structs.
use Rattle.std.proofs.Common.{◌≡◌, ℕ, ◌+◌, ◌<◌, ◌≤◌, Bool, true, false, cond, not, List, [], ◌∷◌, ◌++◌, length, map, Some, None, refl, sym, ap, ◌∙◌, arith}
use Rattle.std.specs.Prelude.{nat_lt}
use Rattle.std.specs.List.{position, position_or_len}
use Rattle.std.proofs.Math.ListN.{length-append}
use Rattle.std.proofs.lemmas.Grind.{common_steps}
use Rattle.ax_prog.specs.declared.Struct.{Struct}
use Rattle.ax_prog.specs.declared.Ty.{Ty}
use Rattle.ax_names_types.specs.Scopes.{same_text}
use Rattle.ax_names_declared.specs.Denotations.{tags_of, name_at}
use Rattle.ax_names_declared.specs.Verdicts.{place_of}
use Rattle.ax_names_declared.specs.Members.{names_of, field_place}

mapped : {X Y : Type 0} (p : Y → Bool) (f : X → Y) (xs : List X) → position_or_len p (map f xs) ≡ position_or_len (λ x. p (f x)) xs
mapped p f [] = refl
mapped p f (x ∷ xs) = ap (λ n. cond (not (p (f x))) (1 + n) 0) (mapped p f xs)

lengths : {X Y : Type 0} (f : X → Y) (xs : List X) → length (map f xs) ≡ length xs
lengths f [] = refl
lengths f (x ∷ xs) = let r = lengths f xs in omega arith

pub place_is : (structs : List Struct) (x : List ℕ) → name_at (tags_of structs) x ≡ place_of structs x
place_is structs x = rw (mapped (λ t. same_text t x) (λ (s : Struct). s.name) structs, lengths (λ (s : Struct). s.name) structs) refl

pub field_is : (fields : List (List ℕ × Ty)) (x : List ℕ) → name_at (names_of fields) x ≡ field_place fields x
field_is fields x = rw (mapped (λ t. same_text t x) (λ (f : List ℕ × Ty). f.0) fields, lengths (λ (f : List ℕ × Ty). f.0) fields) refl

module _ {X : Type 0} (p : X → Bool) where
  at : (b : Bool) (x : X) (xs : List X) → p x ≡ b → position_or_len p (x ∷ xs) ≡ cond (not b) (1 + position_or_len p xs) 0
  at b x xs e = ap (λ t. cond (not t) (1 + position_or_len p xs) 0) e

  pub found : (xs ys : List X) → position_or_len p xs < length xs → position_or_len p (xs ++ ys) ≡ position_or_len p xs
  found [] ys h = absurd (omega arith)
  found (x ∷ xs) ys h = by (found xs ys) (p x) refl
    where
      by : (position_or_len p xs < length xs → position_or_len p (xs ++ ys) ≡ position_or_len p xs) → (b : Bool) → p x ≡ b → position_or_len p ((x ∷ xs) ++ ys) ≡ position_or_len p (x ∷ xs)
      by rest true e = at true x (xs ++ ys) e ∙ sym (at true x xs e)
      by rest false e = let k = at false x xs e in at false x (xs ++ ys) e ∙ ap (λ n. 1 + n) (rest (omega arith)) ∙ sym k

  pub unfound : (xs : List X) (y : X) → length xs ≤ position_or_len p xs → position_or_len p (xs ++ y ∷ []) ≡ length xs + cond (not (p y)) 1 0
  unfound [] y h = omega arith
  unfound (x ∷ xs) y h = by (unfound xs y) (p x) refl
    where
      by : (length xs ≤ position_or_len p xs → position_or_len p (xs ++ y ∷ []) ≡ length xs + cond (not (p y)) 1 0) → (b : Bool) → p x ≡ b → position_or_len p ((x ∷ xs) ++ y ∷ []) ≡ length (x ∷ xs) + cond (not (p y)) 1 0
      by rest true e = let k = at true x xs e in absurd (omega arith)
      by rest false e = let k = at false x xs e in at false x (xs ++ y ∷ []) e ∙ ap (λ n. 1 + n) (rest (omega arith)) ∙ omega arith

  place_below : (n m k : ℕ) → cond (nat_lt n m) (Some n) None ≡ Some k → (n ≡ k) × (k < m)
  place_below n m k e = grind (arith, common_steps)

  none_below : (n m : ℕ) → cond (nat_lt n m) (Some n) None ≡ None → m ≤ n
  none_below n m e = grind (arith, common_steps)

  place_there : (n m k l : ℕ) → n ≡ k → k < m → m ≤ l → cond (nat_lt n l) (Some n) None ≡ Some k
  place_there n m k l e h i = grind (arith, common_steps)

  pub found_within : (xs : List X) (y : X) (k : ℕ) → position p xs ≡ Some k → position p (xs ++ y ∷ []) ≡ Some k
  found_within xs y k e =
      let h = place_below (position_or_len p xs) (length xs) k e in
      let long = length-append xs (y ∷ []) in
      place_there (position_or_len p (xs ++ y ∷ [])) (length xs) k (length (xs ++ y ∷ [])) (found xs (y ∷ []) (omega arith) ∙ h.0) h.1 (omega arith)

  last_there : (n m l : ℕ) → n ≡ m + 0 → l ≡ m + 1 → cond (nat_lt n l) (Some n) None ≡ Some m
  last_there n m l e h = grind (arith, common_steps)

  not_there : (n m l : ℕ) → n ≡ m + 1 → l ≡ m + 1 → cond (nat_lt n l) (Some n) None ≡ None
  not_there n m l e h = grind (arith, common_steps)

  pub last_within : (xs : List X) (y : X) → position p xs ≡ None → p y ≡ true → position p (xs ++ y ∷ []) ≡ Some (length xs)
  last_within xs y e h =
      let long = length-append xs (y ∷ []) in
      let k = unfound xs y (none_below (position_or_len p xs) (length xs) e) ∙ ap (λ b. length xs + cond (not b) 1 0) h in
      last_there (position_or_len p (xs ++ y ∷ [])) (length xs) (length (xs ++ y ∷ [])) k (omega arith)

  pub none_within : (xs : List X) (y : X) → position p xs ≡ None → p y ≡ false → position p (xs ++ y ∷ []) ≡ None
  none_within xs y e h =
      let long = length-append xs (y ∷ []) in
      let k = unfound xs y (none_below (position_or_len p xs) (length xs) e) ∙ ap (λ b. length xs + cond (not b) 1 0) h in
      not_there (position_or_len p (xs ++ y ∷ [])) (length xs) (length (xs ++ y ∷ [])) k (omega arith)

pub tags_length : (structs : List Struct) → length (tags_of structs) ≡ length structs
tags_length structs = lengths (λ (s : Struct). s.name) structs

pub within_found : (structs : List Struct) (own x : List ℕ) (k : ℕ) → name_at (tags_of structs) x ≡ Some k → name_at (tags_of structs ++ own ∷ []) x ≡ Some k
within_found structs own x k e = found_within (λ t. same_text t x) (tags_of structs) own k e

pub within_own : (structs : List Struct) (own x : List ℕ) → name_at (tags_of structs) x ≡ None → same_text own x ≡ true → name_at (tags_of structs ++ own ∷ []) x ≡ Some (length structs)
within_own structs own x e h = last_within (λ t. same_text t x) (tags_of structs) own e h ∙ ap Some (tags_length structs)

pub within_none : (structs : List Struct) (own x : List ℕ) → name_at (tags_of structs) x ≡ None → same_text own x ≡ false → name_at (tags_of structs ++ own ∷ []) x ≡ None
within_none structs own x e h = none_within (λ t. same_text t x) (tags_of structs) own e h
