use Rattle.std.proofs.Common.{◌≡◌, ap}
use Rattle.std.proofs.lemmas.List.Elements.{All-append}
use Rattle.ax_proof.specs.Literal.{IsOver}
use Rattle.ax_sat.specs.Base.{BaseState}
use Rattle.ax_sat.proofs.Watches.{all_over_more}
use Rattle.ax_sat.proofs.base.Base.add.Goals as goal

pub invariant_of-self-2 : goal.invariant_of-self-2
invariant_of-self-2 c =
    let before : c.self.inside.vars ≡ c.args.self.now.vars = ap (λ (x : BaseState). x.vars) c.self.view_is in
    let old = all_over_more c.self.inside.vars c.args.self.now.vars c.args.vars _ before c.requires.more c.self.invariant.over in
    record {
      many = c.requires.vars;
      over = rw (c.in_ok-append.ensures.items, c.in_ok-more.ensures) (All-append (IsOver c.args.vars) _ _ old c.requires.over);
    }
