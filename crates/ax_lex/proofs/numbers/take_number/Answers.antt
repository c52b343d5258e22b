use Rattle.std.proofs.Common.{sym, ap, ◌∙◌, arith, ◌≡◌, ◌+◌, true, ℕ, ℤ, pos, w32, subst, rules}
use Rattle.std.proofs.lemmas.Bool.{false≢true}
use Rattle.std.proofs.lemmas.Int.{to_z-of_z}
use mir.Val.{SFits}
use Rattle.ax_prog.specs.declared.tokens.Kind.TheVariants as k
use Rattle.ax_lex.specs.Fronts.{WordIs}
use Rattle.ax_lex.specs.Tokens.{is_hex}
use Rattle.ax_lex.proofs.Numerals.{bare_is, numeral_here, same_value, number_good, number_large, number_bad, ends_before, ends_last}
use Rattle.ax_lex.proofs.numbers.take_number.Goals as goal
use Rattle.ax_lex.proofs.numbers.take_number.Goals.{else-end-eq2-via-then-end-eq2+else-is_hex, else-end-eq2-via-else-end-eq2, else-end-s-via-then-end-s+else-spoils, else-end-s-via-else-end-s}

pub returns-then-is_hex-clause-fault : goal.returns-then-is_hex-clause-fault
returns-then-is_hex-clause-fault c = bare_is c.args.s.now c.head_of-head.result c.base_of-base.result c.digits_len.result c.head_of-head.ensures.value c.base_of-base.ensures.value c.digits_len.ensures.value c.requires.digit (sym c.is_hex.ensures ∙ c.if-is_hex.true) (omega arith)

pub returns-in-None-clause-fault : goal.returns-in-None-clause-fault
returns-in-None-clause-fault c =
    let off : is_hex c.args.s.now ≡ true → c.head_of-head.result + c.digits_len.result ≡ 2 → ⊥ = λ hex two. elim c.else-end-eq2.branch [ else-end-eq2-via-then-end-eq2+else-is_hex w ↦ false≢true (sym w.if-is_hex.false ∙ w.is_hex.ensures ∙ hex) | else-end-eq2-via-else-end-eq2 w ↦ absurd (omega arith) ] in
    let num = numeral_here c.args.s.now c.head_of-head.result c.base_of-base.result c.digits_len.result c.head_of-head.ensures.value c.base_of-base.ensures.value c.digits_len.ensures.value c.requires.digit off in
    let val = same_value c.args.s.now c.head_of-head.result c.base_of-base.result c.digits_len.result c.head_of-head.ensures.value c.base_of-base.ensures.value c.digits_len.ensures.value in
    number_large c.args.s.now (c.head_of-head.result + c.digits_len.result) num (omega (arith, val, c.in-None.ensures.none))

pub returns-then-spoils-clause-fault : goal.returns-then-spoils-clause-fault
returns-then-spoils-clause-fault c =
    let off : is_hex c.args.s.now ≡ true → c.head_of-head.result + c.digits_len.result ≡ 2 → ⊥ = λ hex two. elim c.else-end-eq2.branch [ else-end-eq2-via-then-end-eq2+else-is_hex w ↦ false≢true (sym w.if-is_hex.false ∙ w.is_hex.ensures ∙ hex) | else-end-eq2-via-else-end-eq2 w ↦ absurd (omega arith) ] in
    let num = numeral_here c.args.s.now c.head_of-head.result c.base_of-base.result c.digits_len.result c.head_of-head.ensures.value c.base_of-base.ensures.value c.digits_len.ensures.value c.requires.digit off in
    let val = same_value c.args.s.now c.head_of-head.result c.base_of-base.result c.digits_len.result c.head_of-head.ensures.value c.base_of-base.ensures.value c.digits_len.ensures.value in
    number_bad c.args.s.now (c.head_of-head.result + c.digits_len.result) num (omega (arith, val, c.in-Some.ensures.some.1)) (omega arith) (sym c.spoils.ensures ∙ c.if-spoils.true)

pub returns-else-end-s-clause-found : goal.returns-else-end-s-clause-found
returns-else-end-s-clause-found c =
    let off : is_hex c.args.s.now ≡ true → c.head_of-head.result + c.digits_len.result ≡ 2 → ⊥ = λ hex two. elim c.else-end-eq2.branch [ else-end-eq2-via-then-end-eq2+else-is_hex w ↦ false≢true (sym w.if-is_hex.false ∙ w.is_hex.ensures ∙ hex) | else-end-eq2-via-else-end-eq2 w ↦ absurd (omega arith) ] in
    let num = numeral_here c.args.s.now c.head_of-head.result c.base_of-base.result c.digits_len.result c.head_of-head.ensures.value c.base_of-base.ensures.value c.digits_len.ensures.value c.requires.digit off in
    let val = same_value c.args.s.now c.head_of-head.result c.base_of-base.result c.digits_len.result c.head_of-head.ensures.value c.base_of-base.ensures.value c.digits_len.ensures.value in
    let fits : SFits w32 c.in-Some.v = search rules in
    subst (λ (z : ℤ). WordIs (k.Number z) (c.head_of-head.result + c.digits_len.result) c.args.s.now) (sym (to_z-of_z w32 c.in-Some.v fits)) (number_good c.args.s.now (c.head_of-head.result + c.digits_len.result) c.in-Some.v num (c.in-Some.ensures.some.0 ∙ ap (λ (n : ℕ). pos n) val) (omega (arith, val, c.in-Some.ensures.some.1))
    (elim c.else-end-s.branch [ else-end-s-via-then-end-s+else-spoils w ↦ ends_before c.args.s.now (c.head_of-head.result + c.digits_len.result) (omega arith) (sym w.spoils.ensures ∙ w.if-spoils.false) | else-end-s-via-else-end-s w ↦ ends_last c.args.s.now (c.head_of-head.result + c.digits_len.result) (omega arith) ]))
