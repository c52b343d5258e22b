use Rattle.std.proofs.Common.{◌∙◌, length, sym, arith, subst, List}
use Rattle.std.proofs.lemmas.List.{take_all}
use Rattle.ax_proof.specs.Literal.{Literal, IsBelow}
use Rattle.ax_proof.specs.Clause.{IsClause}
use Rattle.ax_proof.specs.Naming.{renamed_lit, name_at}
use Rattle.ax_proof.proofs.Names.{mapped_more, placed_lit, below_pushed, places_rise}
use Rattle.ax_proof.proofs.naming.placed.Goals as goal

pub place-requires-clause-named : goal.place-requires-clause-named
place-requires-clause-named c =
    let here = rw c.lits-lit-items.ensures.value at c.lit-item.is in
    let within = rw c.lits-lit-items.ensures.value at c.loop-lit-test.true in
    rw c.var.ensures.value (c.requires.named c.lit-item.result (c.loop-lit.lit-index, within, sym here))

pub loop-lit-preserved : goal.loop-lit-preserved
loop-lit-preserved c =
    let f = name_at c.args.names.now in
    let pushed = rw c.new.ensures at c.in_ok-push.ensures.ok in
    record {
      same =
          mapped_more (renamed_lit f) _ c.loop-lit.lit-index c.lit-item.result _ _ _ c.loop-lit-test.true c.lit-item.is c.loop-lit.invariant.same
          (placed_lit f c.lit-item.result c.place.result c.positive.result (c.place.ensures.name ∙ c.var.ensures.value) c.positive.ensures) pushed;
      below = below_pushed (length c.args.names.now) _ _ _ c.loop-lit.invariant.below c.place.ensures.within pushed;
    }

pub from_rising-requires : goal.from_rising-requires
from_rising-requires c =
    let all = take_all c.loop-lit.lit-index c.lits-lit-items.result.now (omega arith) in
    let P : List Literal → Type 0 = λ x. IsClause x in
    let clause : IsClause c.lits-lit-items.result.now = subst P (sym c.lits-lit-items.ensures.value) c.lits-lit-items.ensures.rising in
    places_rise c.args.names.now c.requires.rising _ c.loop-lit.invariant.below (subst P (sym all ∙ c.loop-lit.invariant.same) clause)

pub returns-clause-below : goal.returns-clause-below
returns-clause-below c =
    let P : List Literal → Type 0 = λ x. IsBelow (length c.args.names.now) x in
    subst P (sym c.from_rising.ensures) c.loop-lit.invariant.below
