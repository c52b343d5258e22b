use Rattle.std.proofs.Common.{◌≡◌, ℕ, ◌+◌, ◌*◌, ◌<◌, ◌≤◌, [], List, Some, length, replicate, drop, slice_get, slice_index_or, ap, sym, subst, ◌∙◌, arith}
use Rattle.std.specs.Option.{option_copied}
use Rattle.ax_term.specs.Numbered.{tree}
use Rattle.ax_term.specs.Order.{trees_at}
use Rattle.ax_term.proofs.Walks.{get_some}
use Rattle.ax_blast.specs.Table.{table_of}
use Rattle.ax_blast.proofs.Bound.{few_vars_of}
use Rattle.ax_blast.proofs.Tables.{starts, item_below, rest_below, next_under, sized_now, goes_on}
use Rattle.ax_blast.proofs.blasted.blasted_terms.Goals as goal

pub loop-number-init : goal.loop-number-init
loop-number-init c = record {
  under =
      starts c.args.bank.now (trees_at c.args.bank.now c.args.order.now) c.in_ok-first_clause.field-0.items (table_of c.in_ok-places.places.items) c.requires.after
      (c.in_ok-places.ensures ∙ ap (λ (k : ℕ). replicate k []) c.len.ensures.len) c.in_ok-first_clause.ensures;
  below = c.requires.below;
  vars = omega arith;
}

pub unwrap-term-requires : goal.unwrap-term-requires
unwrap-term-requires c =
    get_some c.get.result c.args.bank.now (slice_index_or c.args.order.now c.loop-number.number-index 0) c.get.ensures
    (item_below (length c.args.bank.now) c.args.order.now c.loop-number.number-index c.loop-number-test.true c.loop-number.invariant.below)

pub place-requires-clause-children : goal.place-requires-clause-children
place-requires-clause-children c =
    let g : slice_get c.args.bank.now (slice_index_or c.args.order.now c.loop-number.number-index 0) ≡ Some c.unwrap-term.result.now = sym c.get.ensures ∙ ap option_copied c.unwrap-term.ensures in
    sized_now c.args.bank.now (trees_at c.args.bank.now c.args.order.now) (trees_at c.args.bank.now (drop (c.loop-number.number-index + 1) c.args.order.now)) c.loop-number.cnf.clauses.items c.loop-number.cnf.vars (table_of c.loop-number.places.items)
    (slice_index_or c.args.order.now c.loop-number.number-index 0) c.unwrap-term.result.now c.len.ensures.sound g
    (next_under c.args.bank.now (trees_at c.args.bank.now c.args.order.now) c.args.order.now c.loop-number.number-index c.loop-number.cnf.clauses.items c.loop-number.cnf.vars (table_of c.loop-number.places.items) c.loop-number-test.true c.loop-number.invariant.under)

pub loop-number-preserved : goal.loop-number-preserved
loop-number-preserved c =
    let g : slice_get c.args.bank.now (slice_index_or c.args.order.now c.loop-number.number-index 0) ≡ Some c.unwrap-term.result.now = sym c.get.ensures ∙ ap option_copied c.unwrap-term.ensures in
    record {
      under =
          goes_on c.args.bank.now (trees_at c.args.bank.now c.args.order.now) (trees_at c.args.bank.now (drop (c.loop-number.number-index + 1) c.args.order.now)) c.loop-number.cnf.clauses.items c.place.new.cnf.clauses.items c.loop-number.cnf.vars c.place.new.cnf.vars
          (table_of c.loop-number.places.items) (table_of c.place.new.places.items) (slice_index_or c.args.order.now c.loop-number.number-index 0) c.unwrap-term.result.now c.len.ensures.sound g
          (next_under c.args.bank.now (trees_at c.args.bank.now c.args.order.now) c.args.order.now c.loop-number.number-index c.loop-number.cnf.clauses.items c.loop-number.cnf.vars (table_of c.loop-number.places.items) c.loop-number-test.true c.loop-number.invariant.under)
          c.in_ok-place.ensures.appends c.in_ok-place.ensures.vars c.in_ok-place.ensures.places;
      below = rest_below (length c.args.bank.now) c.args.order.now c.loop-number.number-index c.loop-number-test.true c.loop-number.invariant.below;
      vars = let f = few_vars_of (tree c.unwrap-term.result.now) in let v = c.in_ok-place.ensures.vars in let h = c.loop-number.invariant.vars in omega arith;
    }
