use Rattle.std.proofs.Common.{map, string_bytes}
use Rattle.clap.specs.Words.{app_of}
use Rattle.ax_words.proofs.Said.{texts-given, texts-missing, texts-refused}
use Rattle.ax_words.proofs.repair.repair_texts.Goals as goal

pub returns-in-Some : goal.returns-in-Some
returns-in-Some c = texts-given (map string_bytes c.args.words.now) (app_of c.in_ok-command.command) c.in-Ok.matches c.in-Some.texts c.in_ok-command.ensures c.in-Ok.ensures c.in-Some.ensures

pub returns-in-Ok : goal.returns-in-Ok
returns-in-Ok c = texts-missing (map string_bytes c.args.words.now) (app_of c.in_ok-command.command) c.in-Ok.matches c.in_ok-command.ensures c.in-Ok.ensures c.in-None.ensures

pub returns : goal.returns
returns c = texts-refused (map string_bytes c.args.words.now) (app_of c.in_ok-command.command) c.in-Err.fault c.in_ok-command.ensures c.in-Err.ensures
