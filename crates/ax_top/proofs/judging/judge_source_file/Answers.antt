use Rattle.std.proofs.Common.{◌≡◌, rules}
use Rattle.std.specs.Prelude.{Err}
use Rattle.ax_top.proofs.Judged.{stops_at_source}
use Rattle.ax_top.proofs.judging.judge_source_file.Goals as goal

pub returns-in_err-program-clause-judged : goal.returns-in_err-program-clause-judged
returns-in_err-program-clause-judged g c =
    let is : c.from_residual-in_err-program.result ≡ Err c.in_err-program.field-0.0 = search rules in
    rw is (stops_at_source (g.S.Shelf.seen c.args.shelf.now) (g.S.Shelf.seen c.read_file.new.shelf) c.args.name.now c.as_slice.result.now c.in_ok-bytes.bytes.items c.in_err-program.field-0.0 c.as_slice.ensures.value c.in_ok-bytes.ensures.read c.in_err-program.ensures)
