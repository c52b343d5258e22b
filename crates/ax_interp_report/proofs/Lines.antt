-- Reports with one line more.
use Rattle.std.proofs.Common.{◌≡◌, ℕ, ◌+◌, ◌<◌, List, [], ◌∷◌, ◌++◌, length, take, get_or, refl, sym, ap, ◌∙◌, append_assoc, append-nil, arith}
use Rattle.std.proofs.lemmas.List.{take_more, length-take-le}
use Rattle.ax_interp_report.specs.declared.verdict.Verdict.{Verdict}
use Rattle.ax_interp_report.specs.Texts.{test_line, test_lines}

lines-push : (k : ℕ) (vs : List Verdict) (v : Verdict) → test_lines k (vs ++ v ∷ []) ≡ test_lines k vs ++ test_line (k + length vs) v
lines-push k [] v = rw append-nil (ap (λ n. test_line n v) (omega arith))
lines-push k (w ∷ vs) v =
    let behind = lines-push (k + 1) vs v in
    let number : (k + 1) + length vs ≡ k + length (w ∷ vs) = omega arith in
    rw (behind, number) (sym (append_assoc (test_line k w) (test_lines (k + 1) vs) (test_line (k + length (w ∷ vs)) v)))

-- the line of one verdict more
pub lines-more : (vs : List Verdict) (at : ℕ) (v : Verdict) → at < length vs
    → test_lines 1 (take (at + 1) vs) ≡ test_lines 1 (take at vs) ++ test_line (at + 1) (get_or vs at v)
lines-more vs at v h =
    let long : length (take at vs) ≡ at = length-take-le at vs (omega arith) in
    let number : 1 + length (take at vs) ≡ at + 1 = omega arith in
    ap (λ (l : List Verdict). test_lines 1 l) (take_more vs at v h)
    ∙ lines-push 1 (take at vs) (get_or vs at v)
    ∙ ap (λ (n : ℕ). test_lines 1 (take at vs) ++ test_line n (get_or vs at v)) number
