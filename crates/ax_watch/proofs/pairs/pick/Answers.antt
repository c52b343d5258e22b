use Rattle.std.proofs.Common.{◌≤◌, arith}
use Rattle.ax_proof.proofs.Lists.{Contains-read}
use Rattle.ax_watch.proofs.Reaching.{two_places, not_false_fewer}
use Rattle.ax_watch.proofs.pairs.pick.Goals as goal

pub returns : goal.returns
returns c =
    let low : c.min.result ≤ c.open_until-until.result = grind arith in
    let low_too : c.min.result ≤ c.open_until.result = grind arith in
    record {
      first = Contains-read _ _ c.index-clause-two.result c.longest-two.ensures.first c.index-clause-two.is;
      second = Contains-read _ _ c.index-clause-two-2.result c.longest-two.ensures.second c.index-clause-two-2.is;
      differ = two_places _ _ _ c.index-clause-two.result c.index-clause-two-2.result c.requires.rising c.longest-two.ensures.first c.longest-two.ensures.second c.longest-two.ensures.differ c.index-clause-two.is c.index-clause-two-2.is;
      first_open = not_false_fewer _ _ _ _ low c.open_until-until.ensures;
      second_open = not_false_fewer _ _ _ _ low_too c.open_until.ensures;
    }
