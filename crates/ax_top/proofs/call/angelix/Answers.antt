use Rattle.ax_top.proofs.Completing.{complete}
use Rattle.ax_top.proofs.Grown.{grows-little}
use Rattle.ax_top.proofs.Promises.{headline, keeps}
use Rattle.ax_top.proofs.Proofs.{proving}
use Rattle.ax_top.proofs.Reporting.{reports-complete}
use Rattle.ax_top.proofs.Rows.{answered-does, proves-does, refused-does, stopped-does}
use Rattle.ax_top.proofs.call.angelix.Goals as goal

pub returns-in-Err-clause-does : goal.returns-in-Err-clause-does
returns-in-Err-clause-does g c =
    refused-does _ _ c.deref.result.now c.args.words.items c.deref.ensures.value _ _ c.in-Err.fault c.in-Err.ensures c.refuse_words.ensures

pub returns-in-Err-result_of-clause-does : goal.returns-in-Err-result_of-clause-does
returns-in-Err-result_of-clause-does g c =
    stopped-does (g.S.Shelf.seen c.args.shelf.now) (g.S.Shelf.seen c.refuse_order.new.shelf) c.deref.result.now c.args.words.items
    c.deref.ensures.value c.refuse_order.result _ c.as_mut_slice.result.now c.args.rankers.items c.as_mut_slice.ensures.value
    c.in-Ok.order c.in-Err-result_of.stop (g.S.Shelf.seen c.result_of.new.shelf) c.in-Ok.ensures c.in-Err-result_of.ensures.ends
    c.in-Err-result_of.ensures.same c.in-Err-result_of.ensures.counts c.refuse_order.ensures

pub returns-in-Err-clause-complete : goal.returns-in-Err-clause-complete
returns-in-Err-clause-complete g c = complete c.one_candidate_order.ensures _ _ _ _ _ (returns-in-Err-clause-does g c)

pub returns-in-Err-clause-reporting : goal.returns-in-Err-clause-reporting
returns-in-Err-clause-reporting g c = reports-complete _ _ _ _ _ (returns-in-Err-clause-does g c)

pub returns-in-Err-result_of-clause-headline : goal.returns-in-Err-result_of-clause-headline
returns-in-Err-result_of-clause-headline g c = headline _ _ _ _ _ (returns-in-Err-result_of-clause-does g c)

pub returns-in-Err-result_of-clause-complete : goal.returns-in-Err-result_of-clause-complete
returns-in-Err-result_of-clause-complete g c = complete c.one_candidate_order.ensures _ _ _ _ _ (returns-in-Err-result_of-clause-does g c)

pub returns-in-Err-result_of-clause-reporting : goal.returns-in-Err-result_of-clause-reporting
returns-in-Err-result_of-clause-reporting g c = reports-complete _ _ _ _ _ (returns-in-Err-result_of-clause-does g c)

pub returns-clause-does : goal.returns-clause-does
returns-clause-does g c =
    answered-does (g.S.Shelf.seen c.args.shelf.now) (g.S.Shelf.seen c.give.new.shelf) c.deref.result.now c.args.words.items
    c.deref.ensures.value c.give.result _ c.as_mut_slice.result.now c.args.rankers.items c.as_mut_slice.ensures.value
    (g.S.Shelf.seen c.result_of.new.shelf) c.in-Ok-result_of.ensures.same c.in-Ok-result_of.ensures.counts
    c.in-Ok.order c.in-Ok-result_of.answer c.in-Ok.ensures c.in-Ok-result_of.ensures.ends c.give.ensures

pub returns-clause-headline : goal.returns-clause-headline
returns-clause-headline g c = headline _ _ _ _ _ (returns-clause-does g c)

pub returns-clause-complete : goal.returns-clause-complete
returns-clause-complete g c = complete c.one_candidate_order.ensures _ _ _ _ _ (returns-clause-does g c)

pub returns-clause-reporting : goal.returns-clause-reporting
returns-clause-reporting g c = reports-complete _ _ _ _ _ (returns-clause-does g c)

pub returns-clause-keeps : goal.returns-clause-keeps
returns-clause-keeps g c = keeps _ _ _ _ _ (returns-clause-does g c)

pub returns-clause-proving : goal.returns-clause-proving
returns-clause-proving g c = proving _ _ _ _ _ (returns-clause-does g c)

pub returns-in-Err-result_of-clause-proving : goal.returns-in-Err-result_of-clause-proving
returns-in-Err-result_of-clause-proving g c = proving _ _ _ _ _ (returns-in-Err-result_of-clause-does g c)

pub returns-in-Ok-Prove-clause-does : goal.returns-in-Ok-Prove-clause-does
returns-in-Ok-Prove-clause-does g c =
    proves-does (g.S.Shelf.seen c.args.shelf.now) (g.S.Shelf.seen c.prove.new.shelf) c.deref.result.now c.args.words.items
    c.deref.ensures.value c.prove.result _ c.in-Ok-Prove.cnf c.in-Ok-Prove.proof c.in-Ok-Prove.budget (rw (← c.in-Ok-Prove.field-0-is) c.in-Ok-Prove.ensures)
    c.as_str.result.now c.as_str-in-Ok-Prove.result.now c.as_str.ensures.value c.as_str-in-Ok-Prove.ensures.value c.prove.ensures

pub returns-in-Ok-Prove-clause-headline : goal.returns-in-Ok-Prove-clause-headline
returns-in-Ok-Prove-clause-headline g c = headline _ _ _ _ _ (returns-in-Ok-Prove-clause-does g c)

pub returns-in-Ok-Prove-clause-complete : goal.returns-in-Ok-Prove-clause-complete
returns-in-Ok-Prove-clause-complete g c = complete c.one_candidate_order.ensures _ _ _ _ _ (returns-in-Ok-Prove-clause-does g c)

pub returns-in-Ok-Prove-clause-reporting : goal.returns-in-Ok-Prove-clause-reporting
returns-in-Ok-Prove-clause-reporting g c = reports-complete _ _ _ _ _ (returns-in-Ok-Prove-clause-does g c)

pub returns-in-Ok-Prove-clause-proving : goal.returns-in-Ok-Prove-clause-proving
returns-in-Ok-Prove-clause-proving g c = proving _ _ _ _ _ (returns-in-Ok-Prove-clause-does g c)

pub returns-in-Ok-Prove-clause-keeps : goal.returns-in-Ok-Prove-clause-keeps
returns-in-Ok-Prove-clause-keeps g c = keeps _ _ _ _ _ (returns-in-Ok-Prove-clause-does g c)

pub result_of-requires-clause-grows : goal.result_of-requires-clause-grows
result_of-requires-clause-grows g c = grows-little _ c.in-Ok.order c.in-Ok.ensures
