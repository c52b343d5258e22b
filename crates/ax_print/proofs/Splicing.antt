-- Laws of splicing.
use Rattle.std.proofs.Common.{◌≡◌, ℕ, ◌≤◌, ◌<◌, ◌-◌, ◌+◌, List, [], ◌∷◌, ◌++◌, take, drop, length, get_or, refl, sym, ap, ◌∙◌, subst, arith, add-one, drop-cons, append_assoc}
use Rattle.std.proofs.lemmas.List.{take-append-drop, drop-drop, take-take, take-append-le, length-take-le}
use Rattle.std.proofs.Math.Seq.{take-add, drop-append_seam}
use Rattle.std.proofs.Math.Nat.{sub-zero}
use native.Mathlib.Numerals.{unary_clauses}
use Rattle.ax_prog.specs.declared.Span.{Span}
use Rattle.ax_print.specs.Spliced.{spliced_from, spliced, AreParts}

-- parts from a place on leave the place within the source
pub AreParts-within : (at len : ℕ) (parts : List (Span × List ℕ)) → AreParts at len parts → at ≤ len
AreParts-within at len [] h = h
AreParts-within at len (part ∷ rest) h = let within = AreParts-within part.0.to len rest h.2 in omega (arith, h.0, h.1, within)

-- what parts from the i-th on say of the i-th
pub AreParts-next : (at len : ℕ) (parts : List (Span × List ℕ)) (i : ℕ) (part : Span × List ℕ) → i < length parts → part ≡ get_or parts i part → AreParts at len (drop i parts) → (at ≤ part.0.from) × (part.0.from ≤ part.0.to) × AreParts part.0.to len (drop (i + 1) parts)
AreParts-next at len parts i part below is h =
    let split : drop i parts ≡ part ∷ drop (i + 1) parts = rw (add-one, drop-cons parts i part, ← is) refl in subst (AreParts at len) split h

-- with no part, the source
pub spliced-none : (source : List ℕ) → spliced source [] ≡ source
spliced-none source = refl

-- with one part, what stands before it, its text, and what stands after it
pub spliced-one : (source : List ℕ) (span : Span) (text : List ℕ) → spliced source ((span, text) ∷ []) ≡ take span.from source ++ (text ++ drop span.to source)
spliced-one source span text = simp unary_clauses refl

-- a piece and what follows it
piece : (a b : ℕ) (source : List ℕ) → a ≤ b → drop a source ≡ take (b - a) (drop a source) ++ drop b source
piece a b source le =
    let to : a + (b - a) ≡ b = omega arith in
    sym (take-append-drop (b - a) (drop a source)) ∙ ap (λ rest. take (b - a) (drop a source) ++ rest) (drop-drop (b - a) a source ∙ ap (λ n. drop n source) to)

-- two pieces side by side
pieces : (a b c : ℕ) (source : List ℕ) → a ≤ b → b ≤ c → take (c - a) (drop a source) ≡ take (b - a) (drop a source) ++ take (c - b) (drop b source)
pieces a b c source le le' =
    let whole : c - a ≡ (b - a) + (c - b) = omega arith in
    let to : a + (b - a) ≡ b = omega arith in
    ap (λ n. take n (drop a source)) whole ∙ take-add (b - a) (c - b) (drop a source) ∙ ap (λ rest. take (b - a) (drop a source) ++ take (c - b) rest) (drop-drop (b - a) a source ∙ ap (λ n. drop n source) to)

-- from an earlier place on, what stands between comes first
pub spliced_from-earlier : (a b len : ℕ) (source : List ℕ) (parts : List (Span × List ℕ)) → a ≤ b → AreParts b len parts → spliced_from a source parts ≡ take (b - a) (drop a source) ++ spliced_from b source parts
spliced_from-earlier a b len source [] le are = piece a b source le
spliced_from-earlier a b len source (part ∷ rest) le are =
    ap (λ start. start ++ (part.1 ++ spliced_from part.0.to source rest)) (pieces a b part.0.from source le are.0) ∙ append_assoc (take (b - a) (drop a source)) (take (part.0.from - b) (drop b source)) (part.1 ++ spliced_from part.0.to source rest)

-- a text replaced within the first bytes leaves what follows them
before_seam : (from to : ℕ) (source rest : List ℕ) → from ≤ to → to ≤ length source → take from (take to source ++ rest) ≡ take from source
before_seam from to source rest le within =
    let long : from ≤ length (take to source) = rw length-take-le le in
    take-append-le from (take to source) rest long ∙ take-take from to source le

after_seam : (to : ℕ) (source rest : List ℕ) → to ≤ length source → drop to (take to source ++ rest) ≡ rest
after_seam to source rest within =
    ap (λ n. drop n (take to source ++ rest)) (sym (length-take-le to source within)) ∙ drop-append_seam (take to source) rest

-- the later parts may be replaced first, and then the first part
pub spliced-cons : (source : List ℕ) (span : Span) (text : List ℕ) (rest : List (Span × List ℕ)) → AreParts 0 (length source) ((span, text) ∷ rest) → spliced source ((span, text) ∷ rest) ≡ spliced (spliced source rest) ((span, text) ∷ [])
spliced-cons source span text rest are =
    let within : span.to ≤ length source = AreParts-within span.to (length source) rest are.2 in
    let later : spliced source rest ≡ take span.to source ++ spliced_from span.to source rest =
    spliced_from-earlier 0 span.to (length source) source rest (omega arith) are.2 ∙ ap (λ n. take n source ++ spliced_from span.to source rest) (sub-zero span.to) in
    let before : take span.from (spliced source rest) ≡ take span.from source = ap (take span.from) later ∙ before_seam span.from span.to source (spliced_from span.to source rest) are.1 within in
    let after : drop span.to (spliced source rest) ≡ spliced_from span.to source rest = ap (drop span.to) later ∙ after_seam span.to source (spliced_from span.to source rest) within in
    ap (λ n. take n source ++ (text ++ spliced_from span.to source rest)) (sub-zero span.from) ∙ ap (λ start. start ++ (text ++ spliced_from span.to source rest)) (sym before) ∙ ap (λ end. take span.from (spliced source rest) ++ (text ++ end)) (sym after) ∙ sym (spliced-one (spliced source rest) span text)
