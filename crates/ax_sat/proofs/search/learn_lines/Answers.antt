use Rattle.std.proofs.Common.{ap, ◌≡◌, ◌++◌, [], ◌∙◌, arith, List, length, true}
use Rattle.ax_proof.specs.Literal.{Literal}
use Rattle.ax_sat_policy.proofs.Cores.{core_itself, core_of_core}
use Rattle.ax_sat.specs.Marks.{MarksState}
use Rattle.ax_sat.proofs.Watches.{vars_kept, over_along, all_over}
use Rattle.ax_sat.proofs.Logging.{logs_start, logs_go_on, ended_log, ended_answer, spends, model_kept}
use Rattle.ax_sat.proofs.Cored.{refuted_by_core, open_by_core, model_by_core, core_kept}
use Rattle.ax_sat.proofs.Decisions.{stands_start, asks_start}
use Rattle.ax_sat.proofs.Lessons.{learns_asks, learns_logs, learns_core}
use Rattle.ax_sat.proofs.search.learn_lines.Goals as goal

pub load-requires-2 : goal.load-requires-2
load-requires-2 c =
    let lines = rw (← c.as_slice.ensures.value) at c.requires.lines in
    all_over _ c.args.watch.now.vars _ c.load.ensures.vars lines

pub loop-init : goal.loop-init
loop-init c =
    let empty : c.load-2.new.watch.trail ≡ [] = c.load-2.ensures.trail ∙ (c.load.ensures.trail ∙ c.requires.bare) in
    record {
      vars = c.load-2.ensures.vars ∙ c.load.ensures.vars;
      core =
          let first : c.load.new.watch.clauses ≡ c.args.clauses.now = c.in_ok-load.ensures.clauses ∙ ap (λ (x : List (List Literal)). x ++ c.args.clauses.now) c.requires.none in
          let second = rw (c.as_slice.ensures.value, first) at c.in_ok-load-2.ensures.clauses in
          core_itself _ _ second;
      size = c.requires.size;
      stands = stands_start _ _ _ _ empty c.new-levels.ensures.starts;
      asks = asks_start _ _ _ _ _ c.new-levels.ensures.starts c.new-levels.ensures.roots c.new-levels.ensures.asked;
      log = logs_start _ _ _ _ c.requires.lines c.requires.not_empty c.requires.lawful;
    }

pub descend-requires-clause-over : goal.descend-requires-clause-over
descend-requires-clause-over c = over_along _ c.args.watch.now.vars c.args.assumptions.now (c.prepare.ensures.vars ∙ c.loop.invariant.vars) c.requires.assumptions

pub returns-in-Refuted-clause-log : goal.returns-in-Refuted-clause-log
returns-in-Refuted-clause-log c =
    let core = core_kept c.prepare.new.watch c.descend.new.watch _ c.in_ok-descend.ensures.kept (core_of_core _ _ _ c.in_ok-prepare.ensures.core c.loop.invariant.core) in
    let said = rw c.in-Refuted.is at c.in_ok-descend.ensures.says in
    let rup = refuted_by_core _ _ core _ said in
    ended_log _ _ _ _ _ _ c.loop.counter c.loop.invariant.log rup c.refuted.result c.refuted.ensures.logged c.refuted.ensures.refused

pub returns-in-Refuted-clause-answer : goal.returns-in-Refuted-clause-answer
returns-in-Refuted-clause-answer c =
    let core = core_kept c.prepare.new.watch c.descend.new.watch _ c.in_ok-descend.ensures.kept (core_of_core _ _ _ c.in_ok-prepare.ensures.core c.loop.invariant.core) in
    let said = rw c.in-Refuted.is at c.in_ok-descend.ensures.says in
    let rup = refuted_by_core _ _ core _ said in
    ended_answer _ _ _ _ _ _ c.loop.counter c.loop.invariant.log rup c.args.budget c.refuted.result c.refuted.ensures.answer c.refuted.ensures.logged

pub returns-in-Complete-clause-answer : goal.returns-in-Complete-clause-answer
returns-in-Complete-clause-answer c =
    let core = core_kept c.prepare.new.watch c.descend.new.watch _ c.in_ok-descend.ensures.kept (core_of_core _ _ _ c.in_ok-prepare.ensures.core c.loop.invariant.core) in
    let vars = vars_kept c.prepare.new.watch c.descend.new.watch c.in_ok-descend.ensures.kept ∙ (c.prepare.ensures.vars ∙ c.loop.invariant.vars) in
    let said = rw c.in-Complete.is at c.in_ok-descend.ensures.says in
    let model = rw vars at said in
    (model_kept _ _ _ _ _ c.loop.counter c.loop.invariant.log _ (model_by_core _ _ core _ _ _ model), c.loop.invariant.log.full)

pub returns-in_err-teach-in-Conflict-clause-log : goal.returns-in_err-teach-in-Conflict-clause-log
returns-in_err-teach-in-Conflict-clause-log c = rw c.in_err-teach-in-Conflict.ensures.refused (logs_go_on _ _ _ _ _ c.loop.counter c.loop.invariant.log)

pub loop-preserved : goal.loop-preserved
loop-preserved c =
    let core = core_kept c.prepare.new.watch c.descend.new.watch _ c.in_ok-descend.ensures.kept (core_of_core _ _ _ c.in_ok-prepare.ensures.core c.loop.invariant.core) in
    let vars = vars_kept c.prepare.new.watch c.descend.new.watch c.in_ok-descend.ensures.kept ∙ (c.prepare.ensures.vars ∙ c.loop.invariant.vars) in
    let said = rw c.in-Conflict.is at c.in_ok-descend.ensures.says in
    let learns = c.in_ok-teach-in-Conflict.ensures.learns in
    record {
      vars = learns.vars ∙ vars;
      core = learns_core c.descend.new.watch c.teach.new.watch c.args.assumptions.now c.descend.new.levels c.teach.new.levels _ _ c.teach.ensures.sound said.0 said.1 said.2 learns _ core;
      size = c.teach.ensures.size ∙ (ap (λ (x : MarksState). length x.on) c.in_ok-descend.ensures.marks ∙ c.loop.invariant.size);
      stands = learns.stands;
      asks = learns_asks c.descend.new.watch c.teach.new.watch c.args.assumptions.now c.descend.new.levels c.teach.new.levels _ _ c.teach.ensures.sound said.0 said.1 said.2 learns;
      log = learns_logs c.descend.new.watch c.teach.new.watch c.args.assumptions.now c.descend.new.levels c.teach.new.levels _ _ c.teach.ensures.sound said.0 said.1 said.2 learns _ _ _ c.loop.counter core vars c.loop.invariant.log;
    }

pub is_refuted-requires : goal.is_refuted-requires
is_refuted-requires c = record { assumed = over_along _ c.args.watch.now.vars c.args.assumptions.now c.loop.invariant.vars c.requires.assumptions }

pub returns-then-branch-clause-log : goal.returns-then-branch-clause-log
returns-then-branch-clause-log c =
    let rup = refuted_by_core _ _ c.loop.invariant.core _ (c.in_ok-is_refuted.ensures.0 c.if-branch.true) in
    ended_log _ _ _ _ _ _ c.loop.counter c.loop.invariant.log rup c.refuted-then-branch.result c.refuted-then-branch.ensures.logged c.refuted-then-branch.ensures.refused

pub returns-then-branch-clause-answer : goal.returns-then-branch-clause-answer
returns-then-branch-clause-answer c =
    let rup = refuted_by_core _ _ c.loop.invariant.core _ (c.in_ok-is_refuted.ensures.0 c.if-branch.true) in
    ended_answer _ _ _ _ _ _ c.loop.counter c.loop.invariant.log rup c.args.budget c.refuted-then-branch.result c.refuted-then-branch.ensures.answer c.refuted-then-branch.ensures.logged

pub returns-clause-answer : goal.returns-clause-answer
returns-clause-answer c =
    let same : c.loop.counter ≡ c.args.budget = omega arith in
    rw (← same)
    (spends _ _ _ _ _ c.loop.counter c.loop.invariant.log
    (open_by_core _ _ c.loop.invariant.core _ (λ h.
    let yes : c.in_ok-is_refuted.field-0 ≡ true = c.in_ok-is_refuted.ensures.1 h in
    cc)))
