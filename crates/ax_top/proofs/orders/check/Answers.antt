use Rattle.std.proofs.Common.{refl, subst}
use Rattle.ax_top.specs.Files.{WasRead}
use Rattle.ax_top.specs.Orders.{at_cert, unbuilt}
use Rattle.ax_top.specs.declared.files.File.TheVariants.{Cert}
use Rattle.ax_top.proofs.Judged.{read_after}
use Rattle.ax_top.proofs.orders.check.Goals as goal

pub returns-in-Err-read_file-clause-stops : goal.returns-in-Err-read_file-clause-stops
returns-in-Err-read_file-clause-stops g c =
    at_cert _ _ _ c.in-Ok.ensures.judged (read_after (g.S.Shelf.seen c.args.shelf.now) (g.S.Shelf.seen c.judge_files.new.shelf) (g.S.Shelf.seen c.read_file.new.shelf) c.args.cert.now Cert c.in-Err-read_file.stop c.in-Ok.ensures.same c.in-Ok.ensures.counts c.in-Err-read_file.ensures.read)

pub returns-clause-stops : goal.returns-clause-stops
returns-clause-stops g c =
    unbuilt _ _ _ c.in-Ok.ensures.judged _
    (subst (λ told. WasRead told Cert c.in-Ok-read_file.field-0.items) (c.in-Ok.ensures.same.kept c.args.cert.now) c.in-Ok-read_file.ensures.read)
    refl
