use Rattle.std.proofs.Common.{◌≡◌, inr, sym, refl}
use Rattle.ax_term.specs.NumberedOf.{numbered_of}
use Rattle.ax_term.specs.Bank.{Among, terms_of}
use Rattle.ax_term.specs.Numbered.{number_of}
use Rattle.ax_term.proofs.BankLemmas.{found_term, inserted_table, inserted_terms, inserted_among, IfOk-clone, Stay-gains}
use Rattle.ax_term.proofs.Bank.intern.Goals as goal

pub returns-in-Some-clause-made : goal.returns-in-Some-clause-made
returns-in-Some-clause-made c =
    let h = rw (← c.self.view_is) at c.requires.children in
    let f = found_term c.self.inside.table.entries c.key-key.result c.in-Some.term.now _ c.args.node c.self.invariant c.key-key.ensures h c.in-Some.ensures.value in
    IfOk-clone _ c.clone.result c.in-Some.term.now _ (λ t. t ≡ numbered_of (number_of t) c.args.node) c.clone.ensures.cases f.0

pub returns-in-Some-clause-among : goal.returns-in-Some-clause-among
returns-in-Some-clause-among c =
    let h = rw (← c.self.view_is) at c.requires.children in
    let f = found_term c.self.inside.table.entries c.key-key.result c.in-Some.term.now _ c.args.node c.self.invariant c.key-key.ensures h c.in-Some.ensures.value in
    IfOk-clone _ c.clone.result c.in-Some.term.now _ (λ t. Among c.args.self.now t) c.clone.ensures.cases (rw c.self.view_is at f.1)

pub invariant_of-self-2 : goal.invariant_of-self-2
invariant_of-self-2 c =
    let h = rw (← c.self.view_is) at c.requires.children in
    let k : c.in_ok-kept.kept ≡ numbered_of c.len-number.result c.args.node = rw (c.in_ok-kept.ensures.cases, c.in_ok-new.ensures.ok) refl in
    inserted_table c.self.inside.table.entries _ c.key-key.result _ c.args.node c.in_ok-kept.kept k (sym c.in_default.ensures.value) c.in_ok-insert.ensures.entries c.self.invariant c.len-number.ensures.len c.key-key.ensures h

pub returns-clause-among : goal.returns-clause-among
returns-clause-among c =
    let k : c.in_ok-kept.kept ≡ numbered_of c.len-number.result c.args.node = rw (c.in_ok-kept.ensures.cases, c.in_ok-new.ensures.ok) refl in
    rw c.in_ok-new.ensures.ok (inserted_among c.self.inside.table.entries c.insert.new.self.entries c.key-key.result c.len-number.result c.args.node c.in_ok-kept.kept k (sym c.in_default.ensures.value) c.in_ok-insert.ensures.entries c.len-number.ensures.len)

pub returns-clause-grows : goal.returns-clause-grows
returns-clause-grows c =
    let k : c.in_ok-kept.kept ≡ numbered_of c.len-number.result c.args.node = rw (c.in_ok-kept.ensures.cases, c.in_ok-new.ensures.ok) refl in
    inr (rw (c.in_ok-new.ensures.ok, ← c.self.view_is) (inserted_terms c.self.inside.table.entries c.insert.new.self.entries c.key-key.result c.len-number.result c.args.node c.in_ok-kept.kept k (sym c.in_default.ensures.value) c.in_ok-insert.ensures.entries))

pub returns-clause-stay : goal.returns-clause-stay
returns-clause-stay c s h =
    let k : c.in_ok-kept.kept ≡ numbered_of c.len-number.result c.args.node = rw (c.in_ok-kept.ensures.cases, c.in_ok-new.ensures.ok) refl in
    let w = inserted_terms c.self.inside.table.entries c.insert.new.self.entries c.key-key.result c.len-number.result c.args.node c.in_ok-kept.kept k (sym c.in_default.ensures.value) c.in_ok-insert.ensures.entries in
    Stay-gains (terms_of c.self.inside.table.entries) (terms_of c.insert.new.self.entries) (numbered_of c.len-number.result c.args.node) (inr w) s (rw (← c.self.view_is) at h)
