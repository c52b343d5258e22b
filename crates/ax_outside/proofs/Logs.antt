-- A log that grows keeps the files in it.
use Rattle.std.proofs.Common.{◌≡◌, ◌∙◌, ◌≤◌, ◌+◌, ◌-◌, ◌++◌, ℕ, List, [], ◌∷◌, length, take, drop, refl, ap, ap₂, arith}
use Rattle.std.specs.Prelude.{slice_range}
use Rattle.std.proofs.Math.Seq.{drop-append_seam}
use Rattle.std.proofs.lemmas.List.{drop-append-le, take-append-le, length-append, length-drop, take_all}
use Rattle.ax_outside.specs.declared.files.Entry.{Entry}
use Rattle.ax_outside.specs.Files.{AllLieIn, LiesIn, file_at, files_of}

slice-append : (log more : List ℕ) (a b : ℕ) → a ≤ b → b ≤ length log
    → slice_range (log ++ more) a b ≡ slice_range log a b
slice-append log more a b order fits =
    let room : b - a ≤ length (drop a log) = omega (arith, length-drop a log) in
    ap (take (b - a)) (drop-append-le a log more (omega arith)) ∙ take-append-le (b - a) (drop a log) more room

slice-seam : (xs ys : List ℕ) (a b : ℕ) → a ≡ length xs → b ≡ length xs + length ys
    → slice_range (xs ++ ys) a b ≡ ys
slice-seam xs ys a b from to =
    let count : b - a ≡ length ys = omega arith in
    ap₂ (λ k l. take k (drop l (xs ++ ys))) count from
    ∙ ap (take (length ys)) (drop-append_seam xs ys)
    ∙ take_all (length ys) ys (omega arith)

file_at-append : (log more : List ℕ) (e : Entry) → LiesIn (length log) e → file_at (log ++ more) e ≡ file_at log e
file_at-append log more e lies = ap₂ (λ n b. record { name = n; bytes = b })
    (slice-append log more e.name e.bytes lies.name (let l = lies.end in let k = lies.bytes in omega arith))
    (slice-append log more e.bytes e.end lies.bytes lies.end)

files_of-append : (log more : List ℕ) (es : List Entry) → AllLieIn (length log) es → files_of (log ++ more) es ≡ files_of log es
files_of-append log more [] lie = refl
files_of-append log more (e ∷ es) lie =
    ap₂ (λ f fs. f ∷ fs) (file_at-append log more e lie.0) (files_of-append log more es lie.1)

lie-more : (len longer : ℕ) (es : List Entry) → len ≤ longer → AllLieIn len es → AllLieIn longer es
lie-more len longer [] grows lie = tt
lie-more len longer (e ∷ es) grows lie = (
  record {
    name = lie.0.name;
    bytes = lie.0.bytes;
    end = let l = lie.0.end in omega arith;
  },
  lie-more len longer es grows lie.1,
)

-- a file is written at the end of the log
pub files_of-added : (log middle longer name bytes : List ℕ) (e : Entry) (es more : List Entry) → AllLieIn (length log) es
    → middle ≡ log ++ name → longer ≡ middle ++ bytes → more ≡ e ∷ es
    → e.name ≡ length log → e.bytes ≡ length middle → e.end ≡ length longer
    → files_of longer more ≡ record { name = name; bytes = bytes } ∷ files_of log es
files_of-added log middle longer name bytes e es more lie then last first at from to =
    let long : length middle ≡ length log + length name = ap length then ∙ length-append log name in
    let longest : length longer ≡ length middle + length bytes = ap length last ∙ length-append middle bytes in
    let named : slice_range longer e.name e.bytes ≡ name =
    ap (λ l. slice_range l e.name e.bytes) last
    ∙ slice-append middle bytes e.name e.bytes (omega arith) (omega arith)
    ∙ ap (λ l. slice_range l e.name e.bytes) then
    ∙ slice-seam log name e.name e.bytes at (omega arith) in
    let filled : slice_range longer e.bytes e.end ≡ bytes =
    ap (λ l. slice_range l e.bytes e.end) last
    ∙ slice-seam middle bytes e.bytes e.end from (omega arith) in
    let old : files_of longer es ≡ files_of log es =
    ap (λ l. files_of l es) last
    ∙ files_of-append middle bytes es (lie-more (length log) (length middle) es (omega arith) lie)
    ∙ ap (λ l. files_of l es) then
    ∙ files_of-append log name es lie in
    ap (files_of longer) first ∙ ap₂ (λ f fs. f ∷ fs) (ap₂ (λ n b. record { name = n; bytes = b }) named filled) old

pub lie-added : (log middle longer name bytes : List ℕ) (e : Entry) (es more : List Entry) → AllLieIn (length log) es
    → middle ≡ log ++ name → longer ≡ middle ++ bytes → more ≡ e ∷ es
    → e.name ≡ length log → e.bytes ≡ length middle → e.end ≡ length longer
    → AllLieIn (length longer) more
lie-added log middle longer name bytes e es more lie then last first at from to =
    let long : length middle ≡ length log + length name = ap length then ∙ length-append log name in
    let longest : length longer ≡ length middle + length bytes = ap length last ∙ length-append middle bytes in
    let all : AllLieIn (length longer) (e ∷ es) = (
      record {
        name = omega arith;
        bytes = omega arith;
        end = omega arith;
      },
      lie-more (length log) (length longer) es (omega arith) lie,
    ) in
    rw first all
