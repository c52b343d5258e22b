-- A text to which the parts of an operand have been appended in turn has the operand at its end.
use Rattle.std.proofs.Common.{◌≡◌, ℕ, List, [], ◌++◌, refl, ap, ◌∙◌, true, false, append_assoc}
use Rattle.std.specs.Prelude.{codes}
use Rattle.ax_prog.specs.declared.Un.{Un}
use Rattle.ax_prog.specs.declared.Bin.{Bin}
use Rattle.ax_prog.specs.declared.Atom.{Atom}
use Rattle.ax_prog.specs.declared.Expr.{Expr}
use Rattle.ax_prog.specs.declared.Expr.TheVariants as e
use Rattle.ax_prog.specs.declared.Program.{Program}
use Rattle.ax_prog.specs.declared.SlotId.{SlotId}
use Rattle.ax_prog.specs.declared.Span.{Span}
use Rattle.ax_prog.specs.Candidates.{slot_at}
use Rattle.ax_print.specs.Text.{un_text, bin_text, in_parens, is_leaf, tree_text, operand_text, atom_text, atoms_in, text_of}
use Rattle.ax_print.proofs.Layers.{operand_text-Un, operand_text-Bin, operand_text-Cond}

pub written-Un : (w : Atom → List ℕ) (op : Un) (tree a x : Expr) (sign bytes o o1 o2 o3 o4 : List ℕ) → tree ≡ e.Un op a → x ≡ a → bytes ≡ sign → sign ≡ un_text op → o1 ≡ o ++ codes "(" → o2 ≡ o1 ++ bytes → o3 ≡ o2 ++ operand_text w x → o4 ≡ o3 ++ codes ")" → o4 ≡ o ++ operand_text w tree
written-Un w op tree a x sign bytes o o1 o2 o3 o4 is ha hb hs h1 h2 h3 h4 = rw (h4, h3, h2, h1, hb, hs, ha, is, operand_text-Un) (simp append_assoc)

pub written-Bin : (w : Atom → List ℕ) (op : Bin) (tree a b x y : Expr) (sign bytes o o1 o2 o3 o4 o5 o6 o7 : List ℕ) → tree ≡ e.Bin op a b → x ≡ a → y ≡ b → bytes ≡ sign → sign ≡ bin_text op → o1 ≡ o ++ codes "(" → o2 ≡ o1 ++ operand_text w x → o3 ≡ o2 ++ codes " " → o4 ≡ o3 ++ bytes → o5 ≡ o4 ++ codes " " → o6 ≡ o5 ++ operand_text w y → o7 ≡ o6 ++ codes ")" → o7 ≡ o ++ operand_text w tree
written-Bin w op tree a b x y sign bytes o o1 o2 o3 o4 o5 o6 o7 is ha hb hbytes hs h1 h2 h3 h4 h5 h6 h7 = rw (h7, h6, h5, h4, h3, h2, h1, hbytes, hs, ha, hb, is, operand_text-Bin) (simp append_assoc)

pub written-Cond : (w : Atom → List ℕ) (tree f a b z x y : Expr) (o o1 o2 o3 o4 o5 o6 o7 : List ℕ) → tree ≡ e.Cond f a b → z ≡ f → x ≡ a → y ≡ b → o1 ≡ o ++ codes "(" → o2 ≡ o1 ++ operand_text w z → o3 ≡ o2 ++ codes " ? " → o4 ≡ o3 ++ operand_text w x → o5 ≡ o4 ++ codes " : " → o6 ≡ o5 ++ operand_text w y → o7 ≡ o6 ++ codes ")" → o7 ≡ o ++ operand_text w tree
written-Cond w tree f a b z x y o o1 o2 o3 o4 o5 o6 o7 is hf ha hb h1 h2 h3 h4 h5 h6 h7 = rw (h7, h6, h5, h4, h3, h2, h1, hf, ha, hb, is, operand_text-Cond) (simp append_assoc)

pub written-leaf : (w : Atom → List ℕ) (tree : Expr) (o o1 o2 o3 : List ℕ) → is_leaf tree ≡ true → o1 ≡ o ++ codes "(" → o2 ≡ o1 ++ operand_text w tree → o3 ≡ o2 ++ codes ")" → o3 ≡ o ++ in_parens (tree_text w tree)
written-leaf w tree o o1 o2 o3 leaf h1 h2 h3 = rw (h3, h2, h1, leaf) (simp append_assoc)

pub written-whole : (w : Atom → List ℕ) (tree : Expr) (o o1 : List ℕ) → is_leaf tree ≡ false → o1 ≡ o ++ operand_text w tree → o1 ≡ o ++ in_parens (tree_text w tree)
written-whole w tree o o1 other h = rw (h, other) refl

pub written-text : (source : List ℕ) (program : Program) (slot : SlotId) (tree : Expr) (atoms : List (Atom × Span)) (o o1 text : List ℕ) → atoms ≡ atoms_in (slot_at program slot) → o ≡ [] → o1 ≡ o ++ in_parens (tree_text (atom_text source program atoms) tree) → text ≡ o1 → text ≡ text_of source program slot tree
written-text source program slot tree atoms o o1 text ha h0 h1 h =
    h ∙ h1 ∙ ap (λ start. start ++ in_parens (tree_text (atom_text source program atoms) tree)) h0 ∙ ap (λ found. in_parens (tree_text (atom_text source program found) tree)) ha
