use Rattle.std.proofs.Common.{Ok}
use Rattle.std.proofs.lemmas.List.Sorted.{searched}
use Rattle.ax_proof.proofs.Names.{not_missing, place_low, rises}
use Rattle.ax_proof.proofs.naming.place.Goals as goal

pub returns-in-Ok-clause-low : goal.returns-in-Ok-clause-low
returns-in-Ok-clause-low c =
    let position = rw c.in-Ok.is at c.binary_search.ensures.position in
    let found = searched c.args.names.now c.args.var (Ok c.in-Ok.at) position (rises c.args.names.now c.requires.rising) in
    place_low c.args.names.now c.requires.rising c.in-Ok.at c.args.var c.requires.zero c.requires.low found.1

pub returns-in-Err-clause-name : goal.returns-in-Err-clause-name
returns-in-Err-clause-name c = absurd (not_missing c.args.names.now c.requires.rising c.args.var c.in-Err.at c.requires.named (rw c.in-Err.is at c.binary_search.ensures.position))

pub returns-in-Err-clause-within : goal.returns-in-Err-clause-within
returns-in-Err-clause-within c = absurd (not_missing c.args.names.now c.requires.rising c.args.var c.in-Err.at c.requires.named (rw c.in-Err.is at c.binary_search.ensures.position))

pub returns-in-Err-clause-low : goal.returns-in-Err-clause-low
returns-in-Err-clause-low c = absurd (not_missing c.args.names.now c.requires.rising c.args.var c.in-Err.at c.requires.named (rw c.in-Err.is at c.binary_search.ensures.position))
