use Rattle.std.proofs.Common.{◌≡◌, Some}
use Rattle.std.proofs.lemmas.Result.{IfOk-weaker}
use Rattle.ax_flow.specs.Machine.{act}
use Rattle.ax_flow.specs.declared.Op.TheVariants.{Decl, Call, End}
use Rattle.ax_interp.specs.Moves.{here_of, move_of, setting_of}
use Rattle.ax_interp.specs.Gaps.{StillEnded}
use Rattle.ax_interp.proofs.Kept.{still_ended}
use Rattle.ax_interp.proofs.running.perform.Goals as goal

pub returns-in-Decl-clause-ended : goal.returns-in-Decl-clause-ended
returns-in-Decl-clause-ended c =
    let context = c.args.context.now in
    let old = c.args.machine.now in
    let new = c.declares.new.machine in
    let op = Some (Decl c.in-Decl.id c.in-Decl.init) in
    IfOk-weaker c.declares.result (λ end. move_of end new ≡ act (setting_of context) context.flow.now.starts op (here_of old)) (λ end. StillEnded end c.args.gaps.now new)
    (λ end e. still_ended (setting_of context) context.flow.now.starts op end c.args.gaps.now old new e c.requires.ended) c.declares.ensures

pub returns-in-Call-clause-ended : goal.returns-in-Call-clause-ended
returns-in-Call-clause-ended c =
    let context = c.args.context.now in
    let old = c.args.machine.now in
    let new = c.calls.new.machine in
    let op = Some (Call c.in-Call.f c.in-Call.args) in
    IfOk-weaker c.calls.result (λ end. move_of end new ≡ act (setting_of context) context.flow.now.starts op (here_of old)) (λ end. StillEnded end c.args.gaps.now new)
    (λ end e. still_ended (setting_of context) context.flow.now.starts op end c.args.gaps.now old new e c.requires.ended) c.calls.ensures

pub returns-in-End-clause-ended : goal.returns-in-End-clause-ended
returns-in-End-clause-ended c =
    let context = c.args.context.now in
    still_ended (setting_of context) context.flow.now.starts (Some (End c.in-End.id)) c.ends.result c.args.gaps.now c.args.machine.now c.ends.new.machine c.ends.ensures c.requires.ended
