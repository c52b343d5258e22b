use Rattle.std.proofs.Common.{◌≡◌, rules, true}
use Rattle.ax_words.specs.Numbers.{is_number}
use Rattle.ax_words.proofs.Fields.{number-of-read, number-not-read}
use Rattle.ax_words.proofs.numbers.number.Goals as goal

pub returns-in-Err : goal.returns-in-Err
returns-in-Err c =
    let is : is_number c.args.text.now ≡ true = search rules in
    number-not-read c.args.text.now c.in-Err.field-0 c.in-Err.ensures.value.0 is

pub returns-in-Ok : goal.returns-in-Ok
returns-in-Ok c =
    let is : is_number c.args.text.now ≡ true = search rules in
    number-of-read c.args.text.now c.parse.result c.in-Ok.number c.parse.ensures.value.0 c.in-Ok.is is
