use Rattle.std.proofs.Common.{◌≡◌, refl, ap, ◌∙◌, ◌<◌, List, [], ◌∷◌, ◌++◌, length, arith}
use Rattle.ax_prog.specs.declared.Fun.{Fun}
use Rattle.ax_flow.specs.declared.Op.{Op}
use Rattle.ax_flow.specs.Drafts.{fun_code}
use Rattle.ax_flow.proofs.Functions.{codes_step, places_step}
use Rattle.ax_flow.proofs.lowering.code_of.Goals as goal

pub loop-fun-preserved : goal.loop-fun-preserved
loop-fun-preserved c =
    let funs : List Fun = c.args.funs.now in
    let at = c.loop-fun.fun-index in
    let fun : Fun = c.fun-item.result in
    let code : List Op = c.loop-fun.code in
    let first : List Op = c.in_ok-fun_code.field-0 in
    let below : at < length funs = omega (arith, c.loop-fun-test.true) in
    let coded : first ≡ fun_code fun.body (length code) = rw (c.in_ok-fun_code.ensures, c.as_slice.ensures, c.len-at.ensures) refl in
    let longer : c.append.new.self ≡ code ++ first = c.in_ok-append.ensures in
    let added : c.push.new.self ≡ c.loop-fun.starts ++ length code ∷ [] = c.in_ok-push.ensures.ok ∙ ap (λ n. c.loop-fun.starts ++ n ∷ []) c.len-at.ensures in
    record {
      codes = codes_step funs at fun code c.append.new.self first below c.fun-item.is coded longer ∙ c.loop-fun.invariant.codes;
      places = places_step funs at fun code c.append.new.self first below c.fun-item.is coded longer c.loop-fun.starts c.push.new.self added ∙ c.loop-fun.invariant.places;
    }
