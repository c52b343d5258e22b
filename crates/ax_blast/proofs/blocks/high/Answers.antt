use Rattle.std.proofs.Common.{length, ap, ◌∙◌}
use Rattle.ax_blast.proofs.Highs.{product_width}
use Rattle.ax_blast.proofs.blocks.high.Goals as goal

pub upper_half-requires : goal.upper_half-requires
upper_half-requires c = record {
  word =
      ap length c.deref-3.ensures.value
      ∙ product_width c.args.cnf.now.vars c.deref.result.now c.deref-2.result.now c.in_ok-product.product.items
      (ap length c.deref.ensures.value ∙ c.in_ok-a.ensures.width)
      (ap length c.deref-2.ensures.value ∙ c.in_ok-b.ensures.width)
      c.in_ok-product.ensures.outs;
}
