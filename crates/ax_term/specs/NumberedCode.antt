-- A code of numbered trees: a proof tells two of them apart by it.
use Rattle.std.specs.Prelude.{◌≡◌, ℕ, zero, suc, Bool, true, false, ℤ, pos, negsuc, refl}
use Rattle.std.proofs.Common.{ap, sym, ◌∙◌}
use Rattle.std.specs.Coded.{Coded}
use base.Stored.{Gv, gnil, gnum, gcons}
use Rattle.ax_term.specs.declared.WordOp.{WordOp}
use Rattle.ax_term.specs.declared.WordOp.TheVariants.{Add, Sub, Mul, High, Quot, Left, Shl, Shr, And, Or, Xor}
use Rattle.ax_term.specs.declared.TestOp.{TestOp}
use Rattle.ax_term.specs.declared.TestOp.TheVariants.{Eq, Lt}
use Rattle.ax_term.specs.Numbered.{Numbered, word_at, word_sym_at, flag_at, flag_sym_at, make_at, compare_at, no_at, all_at, pick_at}

abbrev int_code : ℤ → Gv
int_code (pos n) = gcons gnil (gnum n)
int_code (negsuc n) = gnum n

abbrev int_back : Gv → ℤ
int_back gnil = pos 0
int_back (gnum n) = negsuc n
int_back (gcons a (gnum n)) = pos n
int_back (gcons a gnil) = pos 0
int_back (gcons a (gcons b c)) = pos 0

int_undoes : (z : ℤ) → int_back (int_code z) ≡ z
int_undoes (pos n) = refl
int_undoes (negsuc n) = refl

abbrev bool_code : Bool → Gv
bool_code true = gnum 0
bool_code false = gnil

abbrev bool_back : Gv → Bool
bool_back (gnum n) = true
bool_back gnil = false
bool_back (gcons a b) = false

bool_undoes : (b : Bool) → bool_back (bool_code b) ≡ b
bool_undoes true = refl
bool_undoes false = refl

abbrev num_back : Gv → ℕ
num_back (gnum n) = n
num_back gnil = 0
num_back (gcons a b) = 0

abbrev word_op_code : WordOp → ℕ
word_op_code Add = 0
word_op_code Sub = 1
word_op_code Mul = 2
word_op_code High = 3
word_op_code Quot = 4
word_op_code Left = 5
word_op_code Shl = 6
word_op_code Shr = 7
word_op_code And = 8
word_op_code Or = 9
word_op_code Xor = 10

abbrev word_op_back : ℕ → WordOp
word_op_back zero = Add
word_op_back (suc zero) = Sub
word_op_back (suc (suc zero)) = Mul
word_op_back (suc (suc (suc zero))) = High
word_op_back (suc (suc (suc (suc zero)))) = Quot
word_op_back (suc (suc (suc (suc (suc zero))))) = Left
word_op_back (suc (suc (suc (suc (suc (suc zero)))))) = Shl
word_op_back (suc (suc (suc (suc (suc (suc (suc zero))))))) = Shr
word_op_back (suc (suc (suc (suc (suc (suc (suc (suc zero)))))))) = And
word_op_back (suc (suc (suc (suc (suc (suc (suc (suc (suc zero))))))))) = Or
word_op_back (suc (suc (suc (suc (suc (suc (suc (suc (suc (suc n)))))))))) = Xor

word_op_undoes : (op : WordOp) → word_op_back (word_op_code op) ≡ op
word_op_undoes Add = refl
word_op_undoes Sub = refl
word_op_undoes Mul = refl
word_op_undoes High = refl
word_op_undoes Quot = refl
word_op_undoes Left = refl
word_op_undoes Shl = refl
word_op_undoes Shr = refl
word_op_undoes And = refl
word_op_undoes Or = refl
word_op_undoes Xor = refl

abbrev test_op_code : TestOp → ℕ
test_op_code Eq = 0
test_op_code Lt = 1

abbrev test_op_back : ℕ → TestOp
test_op_back zero = Eq
test_op_back (suc n) = Lt

test_op_undoes : (op : TestOp) → test_op_back (test_op_code op) ≡ op
test_op_undoes Eq = refl
test_op_undoes Lt = refl

-- number, kind, what the leaf or the operator says, and the children
abbrev node_code : ℕ → ℕ → Gv → Gv → Gv → Gv → Gv
node_code n t p a b c = gcons (gcons (gnum n) (gcons (gnum t) p)) (gcons a (gcons b c))

abbrev code_of : Numbered → Gv
code_of (word_at n z) = node_code n 0 (int_code z) gnil gnil gnil
code_of (word_sym_at n k) = node_code n 1 (gnum k) gnil gnil gnil
code_of (flag_at n b) = node_code n 2 (bool_code b) gnil gnil gnil
code_of (flag_sym_at n k) = node_code n 3 (gnum k) gnil gnil gnil
code_of (make_at n op a b) = node_code n 4 (gnum (word_op_code op)) (code_of a) (code_of b) gnil
code_of (compare_at n op a b) = node_code n 5 (gnum (test_op_code op)) (code_of a) (code_of b) gnil
code_of (no_at n f) = node_code n 6 gnil (code_of f) gnil gnil
code_of (all_at n f g) = node_code n 7 gnil (code_of f) (code_of g) gnil
code_of (pick_at n f a b) = node_code n 8 gnil (code_of f) (code_of a) (code_of b)

-- the term of a kind, of what its node says and of its children
abbrev built : ℕ → ℕ → Gv → Numbered → Numbered → Numbered → Numbered
built zero n p a b c = word_at n (int_back p)
built (suc zero) n p a b c = word_sym_at n (num_back p)
built (suc (suc zero)) n p a b c = flag_at n (bool_back p)
built (suc (suc (suc zero))) n p a b c = flag_sym_at n (num_back p)
built (suc (suc (suc (suc zero)))) n p a b c = make_at n (word_op_back (num_back p)) a b
built (suc (suc (suc (suc (suc zero))))) n p a b c = compare_at n (test_op_back (num_back p)) a b
built (suc (suc (suc (suc (suc (suc zero)))))) n p a b c = no_at n a
built (suc (suc (suc (suc (suc (suc (suc zero))))))) n p a b c = all_at n a b
built (suc (suc (suc (suc (suc (suc (suc (suc k)))))))) n p a b c = pick_at n a b c

abbrev decoded : Gv → Numbered
decoded (gcons (gcons n (gcons t p)) (gcons a (gcons b c))) = built (num_back t) (num_back n) p (decoded a) (decoded b) (decoded c)
decoded _ = flag_at 0 false

pub decoded-code : (s : Numbered) → decoded (code_of s) ≡ s
decoded-code (word_at n z) = ap (word_at n) (int_undoes z)
decoded-code (word_sym_at n k) = refl
decoded-code (flag_at n b) = ap (flag_at n) (bool_undoes b)
decoded-code (flag_sym_at n k) = refl
decoded-code (make_at n op a b) = ap (λ (o : WordOp). make_at n o (decoded (code_of a)) (decoded (code_of b))) (word_op_undoes op) ∙ (ap (λ (x : Numbered). make_at n op x (decoded (code_of b))) (decoded-code a) ∙ ap (make_at n op a) (decoded-code b))
decoded-code (compare_at n op a b) = ap (λ (o : TestOp). compare_at n o (decoded (code_of a)) (decoded (code_of b))) (test_op_undoes op) ∙ (ap (λ (x : Numbered). compare_at n op x (decoded (code_of b))) (decoded-code a) ∙ ap (compare_at n op a) (decoded-code b))
decoded-code (no_at n f) = ap (no_at n) (decoded-code f)
decoded-code (all_at n f g) = ap (λ (x : Numbered). all_at n x (decoded (code_of g))) (decoded-code f) ∙ ap (all_at n f) (decoded-code g)
decoded-code (pick_at n f a b) = ap (λ (x : Numbered). pick_at n x (decoded (code_of a)) (decoded (code_of b))) (decoded-code f) ∙ (ap (λ (x : Numbered). pick_at n f x (decoded (code_of b))) (decoded-code a) ∙ ap (pick_at n f a) (decoded-code b))

abbrev pub numbered_code : Coded Numbered
numbered_code = record { code = code_of; inj = λ x y p. sym (decoded-code x) ∙ (ap decoded p ∙ decoded-code y) }
