-- The nodes of what is spelled, counted by its tokens.
use Rattle.std.proofs.Common.{◌≡◌, ℕ, zero, suc, ◌+◌, Bool, true, false, if◌then◌else◌, List, [], ◌∷◌, ◌++◌, Option, Some, None, refl, sym, ap, ◌∙◌, arith, append_assoc}
use Rattle.ax_prog.specs.declared.tokens.Token.{Token}
use Rattle.ax_parse_grammar.specs.declared.terminals.Terminal.TheVariants as w
use Rattle.ax_parse_grammar.specs.declared.tree.Expr.{Expr}
use Rattle.ax_parse_grammar.specs.declared.tree.Expr.TheVariants as e
use Rattle.ax_parse_grammar.specs.Terminals.{Is, named, extent}
use Rattle.ax_parse_grammar.specs.Expressions.{Spells, SpellArgs, SpellMany}
use Rattle.ax_parse_limits.specs.declared.counts.Class.{Class}
use Rattle.ax_parse_limits.specs.declared.counts.Class.TheVariants as c
use Rattle.ax_parse_limits.specs.Nodes.{nodes}
use Rattle.ax_parse_limits.specs.Scan.{class_of, count, large}
use Rattle.ax_parse_limits.proofs.LargeLayers.{binary_class, prefix_class, name_class, number_class, nodes_of_all, nodes-Unary, nodes-Binary, nodes-Cond, nodes-Index, nodes-Member, nodes-Arrow, nodes-Call}

module _ (many : Bool) (at : ℕ) where
  operand : (k n : ℕ) (v : Bool) (t : Token) (ts : List Token) → class_of t.kind ≡ c.Operand → large many (count at k v n) (t ∷ ts) ≡ large many (count at k true (suc n)) ts
  operand k n v t ts h = rw h refl

  operator : (k n : ℕ) (v : Bool) (t : Token) (ts : List Token) → class_of t.kind ≡ c.Operator → large many (count at k v n) (t ∷ ts) ≡ large many (count at k false (suc n)) ts
  operator k n v t ts h = rw h refl

  opens : (k n : ℕ) (t : Token) (ts : List Token) → class_of t.kind ≡ c.OpenRound → large many (count at k false n) (t ∷ ts) ≡ large many (count at (suc k) false n) ts
  opens k n t ts h = rw h refl

  calls : (k n : ℕ) (t : Token) (ts : List Token) → class_of t.kind ≡ c.OpenRound → large many (count at k true n) (t ∷ ts) ≡ large many (count at (suc k) false (suc n)) ts
  calls k n t ts h = rw h refl

  indexes : (k n : ℕ) (v : Bool) (t : Token) (ts : List Token) → class_of t.kind ≡ c.OpenSquare → large many (count at k v n) (t ∷ ts) ≡ large many (count at (suc k) false (suc n)) ts
  indexes k n v t ts h = rw h refl

  closes : (k n : ℕ) (v : Bool) (t : Token) (ts : List Token) → class_of t.kind ≡ c.Close → large many (count at (suc k) v n) (t ∷ ts) ≡ large many (count at k true n) ts
  closes k n v t ts h = rw h refl

  links : (k n : ℕ) (v : Bool) (t : Token) (ts : List Token) → class_of t.kind ≡ c.Link → large many (count at k v n) (t ∷ ts) ≡ large many (count at k false n) ts
  links k n v t ts h = rw h refl

  commas : (k n : ℕ) (v : Bool) (t : Token) (ts : List Token) → class_of t.kind ≡ c.Comma → large many (count at (suc k) v n) (t ∷ ts) ≡ large many (count at (suc k) false n) ts
  commas k n v t ts h = rw h refl

  as_many : (k a b : ℕ) (ts : List Token) → a ≡ b → large many (count at k true a) ts ≡ large many (count at k true b) ts
  as_many k a b ts h = ap (λ (n : ℕ). large many (count at k true n) ts) h

  -- a list within a list
  within : (k n : ℕ) (v : Bool) (us vs rest : List Token) → large many (count at k v n) ((us ++ vs) ++ rest) ≡ large many (count at k v n) (us ++ (vs ++ rest))
  within k n v us vs rest = ap (λ (l : List Token). large many (count at k v n) l) (append_assoc us vs rest)

  mutual
    pub counted : {l : ℕ} {x : Expr} {ts : List Token} → Spells l x ts → (k n : ℕ) (rest : List Token) → large many (count at k false n) (ts ++ rest) ≡ large many (count at k true (n + nodes x)) rest
    counted (Spells.name {x = x} t h) k n rest = operand k n false t rest (name_class t.kind x h) ∙ as_many k (suc n) (n + 1) rest (omega arith)
    counted (Spells.number {n = i} t h) k n rest = operand k n false t rest (number_class t.kind i h) ∙ as_many k (suc n) (n + 1) rest (omega arith)
    counted (Spells.parens {x = x} {ts = ts} a b g h s) k n rest =
        opens k n a ((ts ++ b ∷ []) ++ rest) (ap class_of g) ∙ within (suc k) n false ts (b ∷ []) rest ∙ counted s (suc k) n (b ∷ rest) ∙ closes k (n + nodes x) true b rest (ap class_of h)
    counted (Spells.index {a = x} {i = i} {ts = ts} {us = us} a b le g h s r) k n rest =
        let flat = us ++ b ∷ rest in
        let total : (suc (n + nodes x)) + nodes i ≡ n + nodes (e.Index (extent (ts ++ a ∷ (us ++ b ∷ []))) x i) = rw (nodes-Index (extent (ts ++ a ∷ (us ++ b ∷ []))) x i) (omega arith) in
        within k n false ts (a ∷ (us ++ b ∷ [])) rest ∙ counted s k n (a ∷ ((us ++ b ∷ []) ++ rest)) ∙ indexes k (n + nodes x) true a ((us ++ b ∷ []) ++ rest) (ap class_of g) ∙ within (suc k) (suc (n + nodes x)) false us (b ∷ []) rest ∙ counted r (suc k) (suc (n + nodes x)) (b ∷ rest) ∙ closes k ((suc (n + nodes x)) + nodes i) true b rest (ap class_of h) ∙ as_many k ((suc (n + nodes x)) + nodes i) (n + nodes (e.Index (extent (ts ++ a ∷ (us ++ b ∷ []))) x i)) rest total
    counted (Spells.member {a = x} {x = y} {ts = ts} a b le g h s) k n rest =
        let span = extent (ts ++ a ∷ b ∷ []) in
        let total : suc (n + nodes x) ≡ n + nodes (e.Member span x (named b y)) = rw (nodes-Member span x (named b y)) (omega arith) in
        within k n false ts (a ∷ b ∷ []) rest ∙ counted s k n (a ∷ b ∷ rest) ∙ links k (n + nodes x) true a (b ∷ rest) (ap class_of g) ∙ operand k (n + nodes x) false b rest (name_class b.kind y h) ∙ as_many k (suc (n + nodes x)) (n + nodes (e.Member span x (named b y))) rest total
    counted (Spells.arrow {a = x} {x = y} {ts = ts} a b le g h s) k n rest =
        let span = extent (ts ++ a ∷ b ∷ []) in
        let total : suc (n + nodes x) ≡ n + nodes (e.Arrow span x (named b y)) = rw (nodes-Arrow span x (named b y)) (omega arith) in
        within k n false ts (a ∷ b ∷ []) rest ∙ counted s k n (a ∷ b ∷ rest) ∙ links k (n + nodes x) true a (b ∷ rest) (ap class_of g) ∙ operand k (n + nodes x) false b rest (name_class b.kind y h) ∙ as_many k (suc (n + nodes x)) (n + nodes (e.Arrow span x (named b y))) rest total
    counted (Spells.call {f = f} {xs = xs} {ts = ts} {us = us} a b le g h s r) k n rest =
        let span = extent (ts ++ a ∷ (us ++ b ∷ [])) in
        let total : (suc (n + nodes f)) + nodes_of_all xs ≡ n + nodes (e.Call span f xs) = rw (nodes-Call span f xs) (omega arith) in
        within k n false ts (a ∷ (us ++ b ∷ [])) rest ∙ counted s k n (a ∷ ((us ++ b ∷ []) ++ rest)) ∙ calls k (n + nodes f) a ((us ++ b ∷ []) ++ rest) (ap class_of g) ∙ within (suc k) (suc (n + nodes f)) false us (b ∷ []) rest ∙ args_counted r k (suc (n + nodes f)) b rest (ap class_of h) ∙ as_many k ((suc (n + nodes f)) + nodes_of_all xs) (n + nodes (e.Call span f xs)) rest total
    counted (Spells.unary {op = op} {a = x} {ts = ts} t le h s) k n rest =
        let span = extent (t ∷ ts) in
        let total : suc n + nodes x ≡ n + nodes (e.Unary span op x) = rw (nodes-Unary span op x) (omega arith) in
        operator k n false t (ts ++ rest) (prefix_class t.kind op h) ∙ counted s k (suc n) rest ∙ as_many k (suc n + nodes x) (n + nodes (e.Unary span op x)) rest total
    counted (Spells.binary {op = op} {a = x} {b = y} {left = ts} {right = us} t le h s r) k n rest =
        let span = extent (ts ++ t ∷ us) in
        let total : (suc (n + nodes x)) + nodes y ≡ n + nodes (e.Binary span op x y) = rw (nodes-Binary span op x y) (omega arith) in
        within k n false ts (t ∷ us) rest ∙ counted s k n (t ∷ (us ++ rest)) ∙ operator k (n + nodes x) true t (us ++ rest) (binary_class t.kind op h) ∙ counted r k (suc (n + nodes x)) rest ∙ as_many k ((suc (n + nodes x)) + nodes y) (n + nodes (e.Binary span op x y)) rest total
    counted (Spells.cond {c = z} {a = x} {b = y} {test = ts} {then = us} {else = vs} q t g h s r p) k n rest =
        let span = extent (ts ++ q ∷ (us ++ t ∷ vs)) in
        let total : ((suc (n + nodes z)) + nodes x) + nodes y ≡ n + nodes (e.Cond span z x y) = rw (nodes-Cond span z x y) (omega arith) in
        within k n false ts (q ∷ (us ++ t ∷ vs)) rest ∙ counted s k n (q ∷ ((us ++ t ∷ vs) ++ rest)) ∙ operator k (n + nodes z) true q ((us ++ t ∷ vs) ++ rest) (ap class_of g) ∙ within k (suc (n + nodes z)) false us (t ∷ vs) rest ∙ counted r k (suc (n + nodes z)) (t ∷ (vs ++ rest)) ∙ links k ((suc (n + nodes z)) + nodes x) true t (vs ++ rest) (ap class_of h) ∙ counted p k ((suc (n + nodes z)) + nodes x) rest ∙ as_many k (((suc (n + nodes z)) + nodes x) + nodes y) (n + nodes (e.Cond span z x y)) rest total

    args_counted : {xs : List Expr} {ts : List Token} → SpellArgs xs ts → (k n : ℕ) (b : Token) (rest : List Token) → class_of b.kind ≡ c.Close → large many (count at (suc k) false n) (ts ++ b ∷ rest) ≡ large many (count at k true (n + nodes_of_all xs)) rest
    args_counted SpellArgs.nothing k n b rest h = closes k n false b rest h ∙ as_many k n (n + 0) rest (omega arith)
    args_counted (SpellArgs.some {xs = xs} s) k n b rest h = many_counted s k n (b ∷ rest) ∙ closes k (n + nodes_of_all xs) true b rest h

    many_counted : {xs : List Expr} {ts : List Token} → SpellMany xs ts → (k n : ℕ) (rest : List Token) → large many (count at (suc k) false n) (ts ++ rest) ≡ large many (count at (suc k) true (n + nodes_of_all xs)) rest
    many_counted (SpellMany.one {x = x} s) k n rest = counted s (suc k) n rest ∙ as_many (suc k) (n + nodes x) (n + (nodes x + 0)) rest (omega arith)
    many_counted (SpellMany.more {x = x} {xs = xs} {ts = ts} {us = us} comma g s r) k n rest =
        within (suc k) n false ts (comma ∷ us) rest ∙ counted s (suc k) n (comma ∷ (us ++ rest)) ∙ commas k (n + nodes x) true comma (us ++ rest) (ap class_of g) ∙ many_counted r k (n + nodes x) rest ∙ as_many (suc k) ((n + nodes x) + nodes_of_all xs) (n + (nodes x + nodes_of_all xs)) rest (omega arith)
