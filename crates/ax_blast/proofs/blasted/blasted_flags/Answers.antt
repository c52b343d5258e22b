use Rattle.std.proofs.Common.{◌≡◌, ◌++◌, ℕ, List, length, ap, sym, subst, ◌∙◌}
use Rattle.std.specs.Global.{Vec}
use Rattle.std.proofs.lemmas.List.{length-map}
use Rattle.ax_proof.specs.Literal.{Literal}
use Rattle.ax_gates.specs.Gates.{as_clauses}
use Rattle.ax_term.specs.Order.{trees, trees_at, AllBelow}
use Rattle.ax_blast.specs.Blasting.{units}
use Rattle.ax_blast.specs.Table.{table_of, AllFlagRows, row_flags}
use Rattle.ax_blast.proofs.Tables.{flag_rows, made}
use Rattle.ax_blast.proofs.blasted.blasted_flags.Goals as goal

pub flags_of-requires : goal.flags_of-requires
flags_of-requires c =
    subst (λ (rows : List (Vec Literal)). AllFlagRows (table_of rows) c.args.asserted.now) (sym c.as_slice-2.ensures.value)
    (flag_rows c.args.bank.now c.args.asserted.now c.as_slice.result.now (table_of c.in_ok-blasted.blasted.places.items) (trees c.args.asserted.now) (trees c.args.named.now) c.len-size.ensures.sound
    (subst (AllBelow (length c.args.bank.now)) (sym c.as_slice.ensures.value) c.in_ok-numbers.ensures.below)
    (ap (trees_at c.args.bank.now) c.as_slice.ensures.value ∙ c.in_ok-numbers.ensures.order)
    c.in_ok-blasted.ensures.places (length-map c.in_ok-blasted.blasted.places.items (λ row. row.items) ∙ c.in_ok-blasted.ensures.size) c.order.ensures.asserted c.requires.asserted)

pub flags_of-requires-2 : goal.flags_of-requires-2
flags_of-requires-2 c =
    subst (λ (rows : List (Vec Literal)). AllFlagRows (table_of rows) c.args.named.now) (sym c.as_slice-4.ensures.value)
    (flag_rows c.args.bank.now c.args.named.now c.as_slice.result.now (table_of c.in_ok-blasted.blasted.places.items) (trees c.args.asserted.now) (trees c.args.named.now) c.len-size.ensures.sound
    (subst (AllBelow (length c.args.bank.now)) (sym c.as_slice.ensures.value) c.in_ok-numbers.ensures.below)
    (ap (trees_at c.args.bank.now) c.as_slice.ensures.value ∙ c.in_ok-numbers.ensures.order)
    c.in_ok-blasted.ensures.places (length-map c.in_ok-blasted.blasted.places.items (λ row. row.items) ∙ c.in_ok-blasted.ensures.size) c.order.ensures.named c.requires.named)

pub returns-clause-blasted : goal.returns-clause-blasted
returns-clause-blasted c =
    made c.args.bank.now c.args.asserted.now c.args.named.now c.as_slice.result.now
    (record { cnf = record { vars = c.in_ok-blasted.blasted.cnf.vars; clauses = c.push_units.new.clauses }; places = c.in_ok-blasted.blasted.places; named = c.in_ok-blasted-2.field-0 })
    c.in_ok-blasted.blasted.cnf.clauses.items c.len-size.ensures.sound c.requires.asserted c.requires.named
    (subst (AllBelow (length c.args.bank.now)) (sym c.as_slice.ensures.value) c.in_ok-numbers.ensures.below)
    (ap (trees_at c.args.bank.now) c.as_slice.ensures.value ∙ c.in_ok-numbers.ensures.order)
    c.in_ok-blasted.ensures.clauses
    (c.in_ok-push_units.ensures
    ∙ ap (λ (ls : List Literal). c.in_ok-blasted.blasted.cnf.clauses.items ++ as_clauses (units ls))
    (c.as_slice-3.ensures.value ∙ (c.in_ok-units.ensures ∙ ap (λ (rows : List (Vec Literal)). row_flags (table_of rows) c.args.asserted.now) c.as_slice-2.ensures.value)))
    c.in_ok-blasted.ensures.vars c.in_ok-blasted.ensures.places
    (c.in_ok-blasted-2.ensures ∙ ap (λ (rows : List (Vec Literal)). row_flags (table_of rows) c.args.named.now) c.as_slice-4.ensures.value)
