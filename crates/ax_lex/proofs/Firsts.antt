-- What stands first, by its first byte.
use Rattle.std.proofs.Common.{◌≡◌, ◌≤◌, ◌<◌, ℕ, zero, suc, ◌+◌, Bool, true, false, ◌&&◌, ◌||◌, eqb, [], ◌∷◌, ◌++◌, length, take, drop, get_or, None, refl, sym, ap, subst, arith, inl, inr}
use Rattle.std.proofs.lemmas.List.{take-append-drop}
use Rattle.ax_prog.specs.declared.tokens.Kind.{Kind}
use Rattle.ax_lex.specs.declared.LexFault.TheVariants as fault
use Rattle.ax_lex.specs.declared.numbers.NumberFault.TheVariants.{Large, Bad}
use Rattle.ax_lex.specs.Bytes.{Text, is_blank, is_space, is_word}
use Rattle.ax_lex.specs.Tokens.{mark_of, format_of}
use Rattle.ax_lex.specs.Pieces.{space}
use Rattle.ax_lex.specs.Fronts.{WordIs, LayoutIs, NumberIs}
use Rattle.ax_lex.specs.Faults.{Stuck, NoInclude, late}
use Rattle.ax_lex.proofs.Texts.{no_format}
use Rattle.ax_lex.proofs.Includes.{no_hash}

pub space_is : (s : Text) (fresh flag : Bool) → 0 < length s → is_space (get_or s 0 0) ≡ true → flag ≡ (eqb (get_or s 0 0) 10 || (fresh && is_blank (get_or s 0 0))) → LayoutIs fresh 1 flag s
space_is [] fresh flag some is flag_is = absurd (omega arith)
space_is (b ∷ s) fresh flag some is flag_is = record { p = space b; some = omega arith; within = omega arith; text = refl; piece = is; silent = λ at. refl; goes = sym flag_is }

pub stuck_large : (s : Text) (at count : ℕ) (fresh : Bool) → NumberIs Large s → Stuck at fresh count s (fault.NumberTooLarge at)
stuck_large s at count fresh h = subst (λ (w : Text). Stuck at fresh count w (fault.NumberTooLarge at)) (sym h.3) (Stuck.large h.0 h.1 h.2 h.4 h.5 h.6)

pub stuck_bad : (s : Text) (at count k : ℕ) (fresh : Bool) → NumberIs (Bad k) s → Stuck at fresh count s (late count at (fault.BadByte (at + k)))
stuck_bad s at count k fresh (inl h) = subst (λ (w : Text). Stuck at fresh count w (late count at (fault.BadByte (at + k)))) (sym h.4) (subst (λ (j : ℕ). Stuck at fresh count (h.0 ++ h.1 ∷ h.2) (late count at (fault.BadByte (at + j)))) h.9 (Stuck.spoiled h.0 h.1 h.2 h.3 h.5 h.6 h.7 h.8))
stuck_bad s at count k fresh (inr h) = subst (λ (w : Text). Stuck at fresh count w (late count at (fault.BadByte (at + k)))) (sym h.2) (subst (λ (j : ℕ). Stuck at fresh count (48 ∷ h.0 ∷ h.1) (late count at (fault.BadByte (at + j)))) (sym h.5) (Stuck.bare h.0 h.1 h.3 h.4))

no_format_first : (s : Text) → (get_or s 0 0 ≡ 34 → ⊥) → (n : ℕ) → format_of (take n s) ≡ None
unfolding format_of
no_format_first s off zero = refl
no_format_first [] off (suc n) = refl
no_format_first (b ∷ s) off (suc n) = no_format (b ∷ take n s) off

pub stray_hash : (s : Text) (at count : ℕ) (fresh : Bool) → 0 < length s → get_or s 0 0 ≡ 35 → NoInclude fresh s → Stuck at fresh count s (fault.BadByte at)
unfolding mark_of
stray_hash [] at count fresh some is none = absurd (omega arith)
stray_hash (b ∷ s) at count fresh some is none = Stuck.stray b s (ap is_space is) (ap is_word is) (ap (λ (c : ℕ). mark_of (c ∷ [])) is) (no_format_first (b ∷ s) (λ e. absurd (omega arith))) none

pub stray_quote : (s : Text) (at count : ℕ) (fresh : Bool) → 0 < length s → get_or s 0 0 ≡ 34 → ((n : ℕ) → format_of (take n s) ≡ None) → Stuck at fresh count s (fault.BadByte at)
unfolding mark_of
stray_quote [] at count fresh some is none = absurd (omega arith)
stray_quote (b ∷ s) at count fresh some is none = Stuck.stray b s (ap is_space is) (ap is_word is) (ap (λ (c : ℕ). mark_of (c ∷ [])) is) none (no_hash fresh (b ∷ s) (λ e. absurd (omega arith)))

pub stray_mark : (s : Text) (at count : ℕ) (fresh : Bool) → 0 < length s → is_space (get_or s 0 0) ≡ false → is_word (get_or s 0 0) ≡ false → (get_or s 0 0 ≡ 35 → ⊥) → (get_or s 0 0 ≡ 34 → ⊥) → mark_of (take 1 s) ≡ None → Stuck at fresh count s (fault.BadByte at)
stray_mark [] at count fresh some a b d e none = absurd (omega arith)
stray_mark (x ∷ s) at count fresh some a b d e none = Stuck.stray x s a b none (no_format_first (x ∷ s) e) (no_hash fresh (x ∷ s) d)

pub too_many : (s : Text) (at count n : ℕ) (fresh : Bool) (kind : Kind) → WordIs kind n s → 20000 ≤ count → Stuck at fresh count s (fault.TooManyTokens at)
too_many s at count n fresh kind h le = subst (λ (w : Text). Stuck at fresh count w (fault.TooManyTokens at)) (take-append-drop n s) (Stuck.many (take n s) (drop n s) kind h.piece.0 h.piece.1 le)
