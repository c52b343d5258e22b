use Rattle.std.proofs.Common.{rules}
use Rattle.ax_outside.proofs.Logs.{files_of-added, lie-added}
use Rattle.ax_outside.proofs.files.add_file.Goals as goal

pub returns-clause-files : goal.returns-clause-files
returns-clause-files c =
    files_of-added _ _ _ _ _ _ _ _ c.requires.lie_in c.append.ensures.items c.append-2.ensures.items c.put_first.ensures.items
    (search rules) (search rules) (search rules)

pub returns-clause-lie_in : goal.returns-clause-lie_in
returns-clause-lie_in c =
    lie-added _ _ _ _ _ _ _ _ c.requires.lie_in c.append.ensures.items c.append-2.ensures.items c.put_first.ensures.items
    (search rules) (search rules) (search rules)
