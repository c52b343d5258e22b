use Rattle.std.proofs.Common.{[], ◌∷◌, ◌++◌, ◌≡◌, ◌<◌, ◌≤◌, arith, refl, sym}
use Rattle.std.specs.List.{Contains}
use Rattle.std.proofs.lemmas.List.Elements.{Contains-push}
use Rattle.ax_proof.specs.Literal.{negation}
use Rattle.ax_sat.proofs.Learning.{extends_of, descends_start, refuted_at_once, assumption_false, assumed_conflict, assumed_over, forced_after, from_push, over_push, over_none, descends_next, descends_more, descends_all, root_open}
use Rattle.ax_sat.proofs.Watches.{clauses_kept, vars_kept, kept_more}
use Rattle.ax_sat.proofs.descent.begin.Goals as goal
use Rattle.ax_sat.proofs.descent.begin.Goals.{in-True, in-Open+in_ok-push-in-Open+in-None-propagate}

pub returns-in-Some-clause-says : goal.returns-in-Some-clause-says
returns-in-Some-clause-says c =
    let said = rw c.back.ensures at c.in-Some.ensures.conflict in
    refuted_at_once c.args.watch.now.clauses c.args.assumptions.now [] refl (said.0 refl)

pub loop-lit-init : goal.loop-lit-init
loop-lit-init c =
    let kept = rw c.back.ensures at c.in-None.ensures.kept in
    let goes = rw c.back.ensures at c.in-None.ensures.goes_on in
    let settled = rw c.back.ensures at c.in-None.ensures.says in
    rw c.requires.empty (record {
      kept = kept;
      descends = descends_start c.args.watch.now.clauses [] _ refl (extends_of _ _ _ goes) settled;
      over = over_none c.args.watch.now.vars;
      from = λ m h. let k : h.0 < 0 = h.1 in absurd (omega arith);
    })

pub returns-in-False-clause-says : goal.returns-in-False-clause-says
returns-in-False-clause-says c =
    assumption_false c.args.watch.now.clauses c.args.assumptions.now _ c.loop-lit.watch.trail c.loop-lit.denied.items c.lit-item.result c.loop-lit.invariant.descends c.loop-lit.invariant.from (c.loop-lit.lit-index, c.loop-lit-test.true, sym c.lit-item.is) c.in-False.ensures.0

pub assume-requires-clause-within : goal.assume-requires-clause-within
assume-requires-clause-within c =
    let over = assumed_over _ _ c.loop-lit.lit-index _ c.loop-lit-test.true c.lit-item.is c.requires.assumed in
    let high : c.lit-item.result.var ≤ c.args.watch.now.vars = over.1 in
    let e : c.loop-lit.watch.vars ≡ c.args.watch.now.vars = vars_kept c.args.watch.now c.loop-lit.watch c.loop-lit.invariant.kept in
    omega arith

pub returns-in-Some-propagate-clause-says : goal.returns-in-Some-propagate-clause-says
returns-in-Some-propagate-clause-says c =
    let e : c.loop-lit.watch.clauses ≡ c.args.watch.now.clauses = clauses_kept c.args.watch.now c.loop-lit.watch c.loop-lit.invariant.kept in
    let said = rw (c.assume.ensures, e) at c.in-Some-propagate.ensures.conflict in
    let here : Contains c.args.assumptions.now c.lit-item.result = (c.loop-lit.lit-index, c.loop-lit-test.true, sym c.lit-item.is) in
    assumed_conflict c.args.watch.now.clauses c.args.assumptions.now (c.loop-lit.watch.trail ++ c.lit-item.result ∷ []) (c.loop-lit.denied.items ++ negation c.lit-item.result ∷ [])
    (from_push _ c.loop-lit.denied.items c.lit-item.result c.loop-lit.invariant.from here)
    (forced_after _ _ c.loop-lit.watch.trail c.loop-lit.denied.items [] c.lit-item.result c.loop-lit.invariant.descends c.trail-known.ensures.sound.consistent c.in-Open.ensures)
    (said.0 refl)

pub loop-lit-preserved : goal.loop-lit-preserved
loop-lit-preserved c =
    let here : Contains c.args.assumptions.now c.lit-item.result = (c.loop-lit.lit-index, c.loop-lit-test.true, sym c.lit-item.is) in
    let over = assumed_over _ _ c.loop-lit.lit-index _ c.loop-lit-test.true c.lit-item.is c.requires.assumed in
    let e : c.loop-lit.watch.clauses ≡ c.args.watch.now.clauses = clauses_kept c.args.watch.now c.loop-lit.watch c.loop-lit.invariant.kept in
    elim c.match-truth.branch [
      | in-True w ↦ rw (w.watch-is, w.denied-is) (record {
        kept = c.loop-lit.invariant.kept;
        descends = descends_more _ c.args.assumptions.now c.loop-lit.lit-index c.lit-item.result c.loop-lit.watch.trail _ c.loop-lit-test.true c.lit-item.is c.loop-lit.invariant.descends w.in-True.ensures.0;
        over = c.loop-lit.invariant.over;
        from = c.loop-lit.invariant.from;
      })
      | in-Open+in_ok-push-in-Open+in-None-propagate w ↦
          let kept = rw w.assume.ensures at w.in-None-propagate.ensures.kept in
          let goes = rw (w.assume.ensures, e) at w.in-None-propagate.ensures.goes_on in
          let settled = rw (w.assume.ensures, e) at w.in-None-propagate.ensures.says in
          let extends = extends_of _ _ _ goes in
          let next = descends_next _ _ c.loop-lit.watch.trail c.loop-lit.denied.items [] c.lit-item.result c.loop-lit.invariant.descends w.trail-known.ensures.sound.consistent w.in-Open.ensures _ extends settled in
          let now = extends.kept c.lit-item.result (Contains-push c.loop-lit.watch.trail c.lit-item.result) in
          rw (w.watch-is, w.denied-is) (record {
            kept = kept_more c.args.watch.now c.loop-lit.watch c.loop-lit.invariant.kept _ kept;
            descends = rw (w.in_ok-push-in-Open.ensures.items, w.negate.ensures) (descends_more _ c.args.assumptions.now c.loop-lit.lit-index c.lit-item.result _ _ c.loop-lit-test.true c.lit-item.is next now);
            over = rw (w.in_ok-push-in-Open.ensures.items, w.negate.ensures) (over_push _ _ _ c.loop-lit.invariant.over over.0 over.1);
            from = rw (w.in_ok-push-in-Open.ensures.items, w.negate.ensures) (from_push _ c.loop-lit.denied.items c.lit-item.result c.loop-lit.invariant.from here);
          })
    ]

pub returns-clause-says : goal.returns-clause-says
returns-clause-says c =
    let d = descends_all _ c.args.assumptions.now c.loop-lit.lit-index c.loop-lit.watch.trail _ (omega arith) c.loop-lit.invariant.descends in
    (d, c.loop-lit.invariant.over, root_open _ _ _ c.trail-known-2.ensures.sound.consistent d.settled d.assumptions)
