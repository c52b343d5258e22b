use Rattle.std.proofs.Common.{◌≡◌, ℕ, get_or, [], ◌∷◌, ◌++◌, ◌≤◌, length, arith, true}
use Rattle.std.proofs.lemmas.List.{get_or_default}
use Rattle.ax_proof.specs.Clause.{IsClause, SameLiterals}
use Rattle.ax_sat.specs.Analysis.{Collects}
use Rattle.ax_sat.proofs.Marking.{found_skip, found_early, found_late, before_early, late_from, found_all, collected, if_both}
use Rattle.ax_sat.proofs.analysis.collect.Goals as goal
use Rattle.ax_sat.proofs.analysis.collect.Goals.{then-has+in-Some+then-at-start+in_ok-push-in-Some, then-has+in-Some+else-at-start+in-None-first, else-has}

pub loop-x-preserved : goal.loop-x-preserved
loop-x-preserved c =
    let trail = c.trail-trail.result.now in
    let on = c.args.marks.now.on in
    let i = c.loop-x.x-index in
    let x : ℕ = get_or c.args.marks.now.touched c.loop-x.x-index 0 in
    let low : c.args.start ≤ length trail = rw c.trail-trail.ensures.value c.requires.start in
    let ok = rw (← c.trail-trail.ensures.value) at c.trail-trail.ensures.sound.consistent in
    let within = rw c.touched-x-items.ensures.value at c.loop-x-test.true in
    let here : x ≡ get_or c.args.marks.now.touched c.loop-x.x-index x = get_or_default c.args.marks.now.touched c.loop-x.x-index 0 x within in
    let marked = rw c.touched-x-items.ensures.value at c.has.ensures in
    elim c.if-has.branch [
      | then-has+in-Some+then-at-start+in_ok-push-in-Some w ↦
          let stands = rw (c.touched-x-items.ensures.value, ← c.trail-trail.ensures.value) at w.in-Some.ensures in
          rw (w.others-is, w.in_ok-push-in-Some.ensures.items, w.negate-lit.ensures, w.first-is) (record {
            found = found_early trail on _ i x _ within here ok w.in-Some.at w.index-trail-at.result stands w.index-trail-at.is _ c.loop-x.invariant.found;
            before = before_early trail on _ i x _ within here ok w.in-Some.at w.index-trail-at.result stands w.index-trail-at.is c.args.start w.if-at-start.true low c.loop-x.invariant.before;
            from = c.loop-x.invariant.from;
          })
      | then-has+in-Some+else-at-start+in-None-first w ↦
          let stands = rw (c.touched-x-items.ensures.value, ← c.trail-trail.ensures.value) at w.in-Some.ensures in
          let found = rw w.in-None-first.is at c.loop-x.invariant.found in
          rw (w.others-is, w.first-is, w.negate-lit.ensures) (record {
            found = found_late trail on _ i x _ within here ok w.in-Some.at w.index-trail-at.result stands w.index-trail-at.is found;
            before = c.loop-x.invariant.before;
            from = late_from trail on _ i x c.loop-x.others.items within here ok w.in-Some.at w.index-trail-at.result stands w.index-trail-at.is c.args.start (let f = w.if-at-start.false in omega arith);
          })
      | else-has w ↦
          rw (w.others-is, w.first-is) (record {
            found = found_skip trail on _ i x _ within here _ (λ m. let on_here : c.has.result ≡ true = marked.1 m in let off = w.if-has.false in cc) c.loop-x.invariant.found;
            before = c.loop-x.invariant.before;
            from = c.loop-x.invariant.from;
          })
    ]

pub returns : goal.returns
returns c =
    let trail = c.trail-trail.result.now in
    let on = c.args.marks.now.on in
    let low : c.args.start ≤ length trail = rw c.trail-trail.ensures.value c.requires.start in
    let once = rw (← c.trail-trail.ensures.value) at c.trail-trail.ensures.sound.trail.once in
    let ok = rw (← c.trail-trail.ensures.value) at c.trail-trail.ensures.sound.consistent in
    let all : length c.args.marks.now.touched ≤ c.loop-x.x-index = rw (← c.touched-x-items.ensures.value) (omega arith) in
    let found = rw c.in-Some-first-2.is at c.loop-x.invariant.found in
    let from = rw c.in-Some-first-2.is at c.loop-x.invariant.from in
    let every = found_all trail on _ c.loop-x.x-index _ _ c.touched-x-items.ensures.listed all found in
    let same = rw (c.as_slice.ensures.value, c.in_ok-push-in-Some-first-2.ensures.items) at c.in_ok-line-in-Some-first-2.ensures.same in
    rw (← c.trail-trail.ensures.value)
    (if_both c.in_ok-line-in-Some-first-2.line (SameLiterals (c.loop-x.others.items ++ c.in-Some-first-2.lit ∷ [])) IsClause (Collects trail on c.args.start)
    (λ line h r. collected trail on c.args.start _ c.in-Some-first-2.lit line low once ok every c.loop-x.invariant.before from h r)
    same c.in_ok-line-in-Some-first-2.ensures.rising)
