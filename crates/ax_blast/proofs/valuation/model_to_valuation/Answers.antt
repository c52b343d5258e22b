use Rattle.std.proofs.Common.{◌≡◌, ℕ, ◌<◌, ◌≤◌, [], List, Some, length, slice_get, slice_index_or, ap, sym, subst, ◌∙◌, arith}
use Rattle.std.specs.Option.{option_copied}
use Rattle.ax_proof.specs.Literal.{Literal}
use Rattle.ax_proof.specs.Assignment.{assigned}
use Rattle.ax_term.specs.Numbered.{tree}
use Rattle.ax_term.specs.Valuation.{interpretation_of}
use Rattle.ax_blast.specs.Table.{table_of}
use Rattle.ax_blast.specs.Reading.{word_lits}
use Rattle.ax_blast.proofs.Valuations.{rows_within, row_small, row_get, read_more, read_means, below_end}
use Rattle.ax_blast.proofs.valuation.model_to_valuation.Goals as goal

pub read-requires : goal.read-requires
read-requires c =
    let below : c.loop-number.number < length c.args.bank.now = subst (λ (k : ℕ). c.loop-number.number < k) c.len-number-end.ensures.len c.loop-number-test.true in
    let row : c.as_slice.result.now ≡ slice_index_or (table_of c.args.blasted.now.places.items) c.loop-number.number [] =
    row_get c.args.blasted.now.places.items c.loop-number.number c.index.result.now c.as_slice.result.now
    (rows_within c.args.bank.now c.requires.0 c.requires.1 c.args.blasted.now c.loop-number.number c.requires.2 below) c.index.ensures c.as_slice.ensures.value in
    subst (λ (ls : List Literal). word_lits (tree c.unwrap-term.result.now) (length ls)) (sym row)
    (row_small c.args.bank.now c.requires.0 c.requires.1 c.args.blasted.now c.loop-number.number (tree c.unwrap-term.result.now) c.len-number-end.ensures.sound c.requires.2 below)

pub loop-number-preserved : goal.loop-number-preserved
loop-number-preserved c =
    let below : c.loop-number.number < length c.args.bank.now = subst (λ (k : ℕ). c.loop-number.number < k) c.len-number-end.ensures.len c.loop-number-test.true in
    let row : c.as_slice.result.now ≡ slice_index_or (table_of c.args.blasted.now.places.items) c.loop-number.number [] =
    row_get c.args.blasted.now.places.items c.loop-number.number c.index.result.now c.as_slice.result.now
    (rows_within c.args.bank.now c.requires.0 c.requires.1 c.args.blasted.now c.loop-number.number c.requires.2 below) c.index.ensures c.as_slice.ensures.value in
    let g : slice_get c.args.bank.now c.loop-number.number ≡ Some c.unwrap-term.result.now = sym c.get.ensures ∙ ap option_copied c.unwrap-term.ensures in
    record {
      reads =
          read_more c.args.bank.now c.requires.0 c.requires.1 c.args.blasted.now (interpretation_of c.read.new.valuation) (interpretation_of c.loop-number.valuation) (assigned c.args.model.now.bits.items) c.loop-number.number c.unwrap-term.result.now c.as_slice.result.now
          c.requires.2 below g row c.in_ok-read.ensures.words c.in_ok-read.ensures.flags c.loop-number.invariant.reads;
    }

pub returns-clause-means : goal.returns-clause-means
returns-clause-means c = λ asserted named h s.
    (let last = c.loop-number-test.false in let size = c.len-number-end.ensures.len in let end : length c.args.bank.now ≤ c.loop-number.number = omega arith in
    (read_means c.args.bank.now c.args.blasted.now (interpretation_of c.loop-number.valuation) (assigned c.args.model.now.bits.items) c.len-number-end.ensures.sound
    (below_end c.args.bank.now c.args.blasted.now (interpretation_of c.loop-number.valuation) (assigned c.args.model.now.bits.items) c.loop-number.number end c.loop-number.invariant.reads) asserted named h s).each)

pub returns-clause-asserted : goal.returns-clause-asserted
returns-clause-asserted c = λ asserted named h s.
    (let last = c.loop-number-test.false in let size = c.len-number-end.ensures.len in let end : length c.args.bank.now ≤ c.loop-number.number = omega arith in
    (read_means c.args.bank.now c.args.blasted.now (interpretation_of c.loop-number.valuation) (assigned c.args.model.now.bits.items) c.len-number-end.ensures.sound
    (below_end c.args.bank.now c.args.blasted.now (interpretation_of c.loop-number.valuation) (assigned c.args.model.now.bits.items) c.loop-number.number end c.loop-number.invariant.reads) asserted named h s).asserted_true)
