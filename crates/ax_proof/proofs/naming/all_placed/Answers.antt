use Rattle.std.proofs.Common.{length, sym, subst, List}
use Rattle.std.specs.List.{All}
use Rattle.std.proofs.lemmas.List.Elements.{All-push}
use Rattle.ax_proof.specs.Literal.{Literal, IsBelow}
use Rattle.ax_proof.specs.Naming.{renamed, name_at, AreNamed}
use Rattle.ax_proof.proofs.Names.{mapped_more}
use Rattle.ax_proof.proofs.naming.all_placed.Goals as goal

pub placed-requires-clause-named : goal.placed-requires-clause-named
placed-requires-clause-named c =
    let P : List Literal → Type 0 = λ x. AreNamed c.args.names.now x in
    subst P (sym c.clause-item.is) (c.requires.named c.loop-clause.clause-index c.clause-item.result c.loop-clause-test.true)

pub loop-clause-preserved : goal.loop-clause-preserved
loop-clause-preserved c =
    let f = name_at c.args.names.now in
    let P : List (List Literal) → Type 0 = λ x. All (IsBelow (length c.args.names.now)) x in
    record {
      same =
          mapped_more (renamed f) _ c.loop-clause.clause-index c.clause-item.result _ _ _ c.loop-clause-test.true c.clause-item.is c.loop-clause.invariant.same
          c.in_ok-placed.ensures.same c.in_ok-push.ensures.items;
      below = subst P (sym c.in_ok-push.ensures.items) (All-push (IsBelow (length c.args.names.now)) _ _ c.loop-clause.invariant.below c.in_ok-placed.ensures.below);
    }
