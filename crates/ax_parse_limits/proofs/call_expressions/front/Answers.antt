use Rattle.std.proofs.Common.{◌≡◌, refl}
use Rattle.ax_parse_limits.proofs.CallLayers.{front-Unary, front-Binary, front-Cond, front-Index, front-Member, front-Arrow}
use Rattle.ax_parse_limits.proofs.call_expressions.front.Goals as goal

pub returns-in-Unary : goal.returns-in-Unary
returns-in-Unary c = rw (c.in-Unary.is, front-Unary, ← c.get.ensures) refl

pub returns-in-Binary : goal.returns-in-Binary
returns-in-Binary c = rw (c.in-Binary.is, front-Binary, ← c.get-in-Binary.ensures) refl

pub returns-in-Cond : goal.returns-in-Cond
returns-in-Cond c = rw (c.in-Cond.is, front-Cond, ← c.get-in-Cond.ensures) refl

pub returns-in-Index : goal.returns-in-Index
returns-in-Index c = rw (c.in-Index.is, front-Index, ← c.get-in-Index.ensures) refl

pub returns-in-Member : goal.returns-in-Member
returns-in-Member c = rw (c.in-Member.is, front-Member, ← c.get-in-Member.ensures) refl

pub returns-in-Arrow : goal.returns-in-Arrow
returns-in-Arrow c = rw (c.in-Arrow.is, front-Arrow, ← c.get-in-Arrow.ensures) refl
