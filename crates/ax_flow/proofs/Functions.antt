-- The code of functions one after another.
use Rattle.std.proofs.Common.{◌≡◌, sym, ap, ◌∙◌, ℕ, ◌+◌, ◌<◌, List, [], ◌∷◌, ◌++◌, drop, length, get_or, append_assoc, length-append}
use Rattle.std.proofs.lemmas.List.{at_drop_more}
use Rattle.ax_prog.specs.declared.Fun.{Fun}
use Rattle.ax_flow.specs.declared.Op.{Op}
use Rattle.ax_flow.specs.Drafts.{fun_code, funs_code, funs_starts}

module _ (funs : List Fun) (at : ℕ) (fun : Fun) (code new first : List Op) (below : at < length funs) (is : fun ≡ get_or funs at fun)
    (coded : first ≡ fun_code fun.body (length code)) (longer : new ≡ code ++ first) where
  -- the code of one more function
  pub codes_step : new ++ funs_code (drop (at + 1) funs) (length new) ≡ code ++ funs_code (drop at funs) (length code)
  codes_step =
      let rest : List Fun = drop (at + 1) funs in
      let left : new ++ funs_code rest (length new) ≡ code ++ (first ++ funs_code rest (length code + length first)) =
      ap (λ l. l ++ funs_code rest (length l)) longer ∙ ap (λ n. (code ++ first) ++ funs_code rest n) (length-append code first)
      ∙ append_assoc code first (funs_code rest (length code + length first)) in
      let right : code ++ funs_code (drop at funs) (length code) ≡ code ++ funs_code (fun ∷ rest) (length code) =
      at_drop_more (λ xs. code ++ funs_code xs (length code)) funs at fun below ∙ ap (λ f. code ++ funs_code (f ∷ rest) (length code)) (sym is) in
      left ∙ ap (λ l. code ++ (l ++ funs_code rest (length code + length l))) coded ∙ sym right

  -- the place where one more function starts
  pub places_step : (starts more : List ℕ) → more ≡ starts ++ length code ∷ [] → more ++ funs_starts (drop (at + 1) funs) (length new) ≡ starts ++ funs_starts (drop at funs) (length code)
  places_step starts more added =
      let rest : List Fun = drop (at + 1) funs in
      let next : length new ≡ length code + length (fun_code fun.body (length code)) =
      ap length longer ∙ length-append code first ∙ ap (λ l. length code + length l) coded in
      let right : starts ++ funs_starts (drop at funs) (length code) ≡ starts ++ funs_starts (fun ∷ rest) (length code) =
      at_drop_more (λ xs. starts ++ funs_starts xs (length code)) funs at fun below ∙ ap (λ f. starts ++ funs_starts (f ∷ rest) (length code)) (sym is) in
      ap (λ l. l ++ funs_starts rest (length new)) added ∙ append_assoc starts (length code ∷ []) (funs_starts rest (length new))
      ∙ ap (λ n. starts ++ (length code ∷ funs_starts rest n)) next ∙ sym right
