-- A shelf in memory does what every shelf does.
use Rattle.std.proofs.Common.{◌≡◌, ◌≢◌, ◌∙◌, ◌≤◌, ℕ, Bool, true, false, cond, List, [], take, Option, None, Some, Err, refl, sym, ap, inl, inr, arith}
use Rattle.std.specs.Prelude.{if◌then◌else◌}
use Rattle.std.specs.Bool.{Decides}
use Rattle.std.specs.Str.{bytes_eq}
use Rattle.std.proofs.lemmas.List.{append-nil}
use Rattle.std.proofs.lemmas.Slice.Eq.{bytes_eq-Decides}
use Rattle.ax_outside.specs.declared.shelf.Failed.{Failed}
use Rattle.ax_outside.specs.Seen.{IsPrefix, Print, Put, Read}
use Rattle.ax_outside.specs.Memory.{Shelved, failed, kept_in, print_part, put_part, seen_of, torn_print, torn_put, with_file, with_text}

pub read-fails : (s t : Shelved) (name : List ℕ) (from : ℕ) (into : List ℕ) (e : Failed)
    → t ≡ failed s → s.faults ≤ t.faults → Read (seen_of s) (seen_of t) name from into (Err e)
read-fails s t name from into e after rises =
    let up = ap (λ (x : Shelved). x.faults) after in
    record {
      bytes = tt;
      cause = omega arith;
      same = record { kept = λ f. ap (λ (x : Shelved). Some (kept_in x.files f)) after; printed = ap (λ (x : Shelved). Some x.printed) after };
      counts = record { reads = λ f. rises; puts = λ f. rises; prints = rises };
    }

differ : (a b : List ℕ) (r : Bool) → Decides r (a ≡ b) → b ≢ a → r ≡ false
differ a b true d other = absurd (other (sym (d.0 refl)))
differ a b false d other = refl

others-stay : (s : Shelved) (name part f : List ℕ) → f ≢ name → kept_in (with_file s name part).files f ≡ kept_in s.files f
others-stay s name part f other =
    let apart : bytes_eq name f ≡ false = differ name f _ (bytes_eq-Decides name f) other in
    ap (λ b. cond b (Some part) (kept_in s.files f)) apart

holds-part : (s : Shelved) (name part : List ℕ) → kept_in (with_file s name part).files name ≡ Some part
holds-part s name part =
    let same : bytes_eq name name ≡ true = (bytes_eq-Decides name name).1 refl in
    ap (λ b. cond b (Some part) (kept_in s.files name)) same

-- a put that fails, by the part that it leaves
part-put : (s t : Shelved) (name bytes part : List ℕ) (b : Bool) (e : Failed) → IsPrefix part bytes
    → t ≡ failed (if b then with_file s name part else s) → s.faults ≤ t.faults → Put (seen_of s) (seen_of t) name bytes (Err e)
part-put s t name bytes part true e prefix after rises =
    let up = ap (λ (x : Shelved). x.faults) after in
    let files = ap (λ (x : Shelved). x.files) after in
    record {
      whole = tt;
      part = inr (part, ap (λ fs. Some (kept_in fs name)) files ∙ ap Some (holds-part s name part), prefix);
      cause = omega arith;
      others = λ f other. ap (λ fs. Some (kept_in fs f)) files ∙ ap Some (others-stay s name part f other);
      printed = ap (λ (x : Shelved). Some x.printed) after;
      counts = record { reads = λ f. rises; puts = λ f. rises; prints = rises };
    }
part-put s t name bytes part false e prefix after rises =
    let up = ap (λ (x : Shelved). x.faults) after in
    let files = ap (λ (x : Shelved). x.files) after in
    record {
      whole = tt;
      part = inl (ap (λ fs. Some (kept_in fs name)) files);
      cause = omega arith;
      others = λ f other. ap (λ fs. Some (kept_in fs f)) files;
      printed = ap (λ (x : Shelved). Some x.printed) after;
      counts = record { reads = λ f. rises; puts = λ f. rises; prints = rises };
    }

with_file-faults : (s : Shelved) (name bytes : List ℕ) (b : Bool) → (if b then with_file s name bytes else s).faults ≡ s.faults
with_file-faults s name bytes true = refl
with_file-faults s name bytes false = refl

torn_put-faults : (s : Shelved) (name bytes : List ℕ) (torn : Option ℕ) → (torn_put s name bytes torn).faults ≡ s.faults
torn_put-faults s name bytes None = refl
torn_put-faults s name bytes (Some kept) = with_file-faults s name (take kept bytes) _

put-fails-by : (s t : Shelved) (name bytes : List ℕ) (torn : Option ℕ) (e : Failed) → t ≡ failed (torn_put s name bytes torn)
    → s.faults ≤ t.faults → Put (seen_of s) (seen_of t) name bytes (Err e)
put-fails-by s t name bytes None e after rises = part-put s t name bytes [] false e (0, refl) after rises
put-fails-by s t name bytes (Some kept) e after rises =
    part-put s t name bytes (take kept bytes) _ e (kept, refl) after rises

-- a put that failed after it left m
pub put-fails : (s m t : Shelved) (name bytes : List ℕ) (e : Failed) → m ≡ put_part s name bytes → t ≡ failed m
    → m.faults ≤ t.faults → Put (seen_of s) (seen_of t) name bytes (Err e)
put-fails s m t name bytes e part after rises =
    let up : s.faults ≡ m.faults = sym (ap (λ (x : Shelved). x.faults) part ∙ torn_put-faults s name bytes _) in
    put-fails-by s t name bytes _ e (after ∙ ap failed part) (omega arith)

pub put-leaves-nothing : (s m t : Shelved) (name bytes : List ℕ) (e : Failed) → m ≡ s → t ≡ failed m
    → m.faults ≤ t.faults → Put (seen_of s) (seen_of t) name bytes (Err e)
put-leaves-nothing s m t name bytes e part after rises =
    let up : s.faults ≡ m.faults = sym (ap (λ (x : Shelved). x.faults) part) in
    part-put s t name bytes [] false e (0, refl) (after ∙ ap failed part) (omega arith)

part-print : (s t : Shelved) (bytes part : List ℕ) (b : Bool) (e : Failed) → IsPrefix part bytes
    → t ≡ failed (if b then with_text s part else s) → s.faults ≤ t.faults → Print (seen_of s) (seen_of t) bytes (Err e)
part-print s t bytes part true e prefix after rises =
    let up = ap (λ (x : Shelved). x.faults) after in
    record {
      whole = tt;
      part = (part, ap (λ (x : Shelved). Some x.printed) after, prefix);
      cause = omega arith;
      kept = λ f. ap (λ (x : Shelved). Some (kept_in x.files f)) after;
      counts = record { reads = λ f. rises; puts = λ f. rises; prints = rises };
    }
part-print s t bytes part false e prefix after rises =
    let up = ap (λ (x : Shelved). x.faults) after in
    record {
      whole = tt;
      part = ([], ap (λ (x : Shelved). Some x.printed) after ∙ ap Some (sym (append-nil s.printed)), (0, refl));
      cause = omega arith;
      kept = λ f. ap (λ (x : Shelved). Some (kept_in x.files f)) after;
      counts = record { reads = λ f. rises; puts = λ f. rises; prints = rises };
    }

with_text-faults : (s : Shelved) (bytes : List ℕ) (b : Bool) → (if b then with_text s bytes else s).faults ≡ s.faults
with_text-faults s bytes true = refl
with_text-faults s bytes false = refl

torn_print-faults : (s : Shelved) (bytes : List ℕ) (torn : Option ℕ) → (torn_print s bytes torn).faults ≡ s.faults
torn_print-faults s bytes None = refl
torn_print-faults s bytes (Some kept) = with_text-faults s (take kept bytes) _

print-fails-by : (s t : Shelved) (bytes : List ℕ) (torn : Option ℕ) (e : Failed) → t ≡ failed (torn_print s bytes torn)
    → s.faults ≤ t.faults → Print (seen_of s) (seen_of t) bytes (Err e)
print-fails-by s t bytes None e after rises = part-print s t bytes [] false e (0, refl) after rises
print-fails-by s t bytes (Some kept) e after rises =
    part-print s t bytes (take kept bytes) _ e (kept, refl) after rises

-- a print that failed after it left m
pub print-fails : (s m t : Shelved) (bytes : List ℕ) (e : Failed) → m ≡ print_part s bytes → t ≡ failed m
    → m.faults ≤ t.faults → Print (seen_of s) (seen_of t) bytes (Err e)
print-fails s m t bytes e part after rises =
    let up : s.faults ≡ m.faults = sym (ap (λ (x : Shelved). x.faults) part ∙ torn_print-faults s bytes _) in
    print-fails-by s t bytes _ e (after ∙ ap failed part) (omega arith)

pub print-leaves-nothing : (s m t : Shelved) (bytes : List ℕ) (e : Failed) → m ≡ s → t ≡ failed m
    → m.faults ≤ t.faults → Print (seen_of s) (seen_of t) bytes (Err e)
print-leaves-nothing s m t bytes e part after rises =
    let up : s.faults ≡ m.faults = sym (ap (λ (x : Shelved). x.faults) part) in
    part-print s t bytes [] false e (0, refl) (after ∙ ap failed part) (omega arith)
