-- What the two files of an order are judged to be is what they are told to be, and what stops an order at them.
use Rattle.std.proofs.Common.{◌≡◌, ◌≤◌, ◌<◌, ℕ, List, length, refl, subst, ap, inl, inr, arith}
use Rattle.std.specs.Prelude.{Err}
use Rattle.ax_prog.specs.declared.Program.{Program}
use Rattle.ax_prog.specs.declared.Suite.{Suite}
use Rattle.ax_front.specs.Texts.{IsProgramOfText, KeepsLimits}
use Rattle.ax_front.specs.declared.SourceFault.{SourceFault}
use Rattle.ax_front.specs.declared.SourceFault.TheVariants as front
use Rattle.ax_front.proofs.Refusals.{one_program_of_text}
use Rattle.ax_suite.specs.Suites.{Reads}
use Rattle.ax_suite.proofs.Single.{one_suite, suites_have_no_fault}
use Rattle.ax_outside.specs.Seen.{IsWhole, NoLess, OnKept, Rose, Seen, Told}
use Rattle.ax_top.specs.declared.files.File.TheVariants as file
use Rattle.ax_top.specs.declared.files.Stop.{Stop}
use Rattle.ax_top.specs.declared.files.Stop.TheVariants as stop
use Rattle.ax_top.specs.Complete.{AreTold, IsCutShort, fails_to_read, wants_memory}
use Rattle.ax_top.specs.Files.{IsLong, WasRead, limit_of}
use Rattle.ax_top.specs.Judging.{HasFault, IsSource, IsTests, Refuses, StopsAtFiles, StopsAtSource, StopsAtTests, at_source, at_tests}
use Rattle.ax_top.specs.Orders.{RunStops, at_files, memory}
use Rattle.ax_top.specs.Reports.{stop_status}

-- ---- faults

unfaulted : (bytes : List ℕ) (program : Program) (fault : SourceFault) → Refuses fault → HasFault bytes fault → KeepsLimits bytes → IsProgramOfText bytes program → ⊥
unfaulted bytes program front.Memory r h keeps is = r
unfaulted bytes program (front.Lex fault) r h keeps is = h.none keeps program is
unfaulted bytes program (front.Parse fault) r h keeps is = h.none keeps program is
unfaulted bytes program (front.«Type» fault) r h keeps is = h.none keeps program is

not-long : (n most : ℕ) → n ≤ most → most < n → ⊥
not-long n most short long = omega arith

-- ---- files

module _ (old : Seen) (source tests : List ℕ) (program : Program) (suite : Suite) (files : AreTold old source tests program suite) where
  pub one-program : (bytes : List ℕ) (p : Program) → IsSource (old.kept source) bytes p → p ≡ program
  one-program bytes p is =
      let read : IsWhole files.bytes bytes (limit_of file.Source) = subst (λ (t : Told). WasRead t file.Source bytes) files.source_told is.read in
      one_program_of_text files.bytes p program (subst (λ (b : List ℕ). IsProgramOfText b p) read.same is.meant) files.spelled

  pub one-tests : (s : Suite) → IsTests (old.kept tests) s → s.tests ≡ suite.tests
  one-tests s is =
      let here = subst (λ (t : Told). IsTests t s) files.tests_told is in
      one_suite files.rows s.tests suite.tests here.1 files.tested

  module _ (new : Seen) where
    abbrev CutShort : Stop → Type 0
    CutShort why = IsCutShort old new source tests (stop_status why)

    by-source : (why : Stop) → StopsAtSource old new source why → CutShort why
    by-source stop.Memory h = wants_memory refl
    by-source (stop.ReadFailed file.Source) h = fails_to_read refl (inl h)
    by-source (stop.ReadFailed file.Tests) h = absurd h
    by-source (stop.ReadFailed file.Cert) h = absurd h
    by-source (stop.TooLong file.Source) h =
        absurd (not-long (length files.bytes) (limit_of file.Source) files.source_short (subst (λ (t : Told). IsLong t file.Source) files.source_told h))
    by-source (stop.TooLong file.Tests) h = absurd h
    by-source (stop.TooLong file.Cert) h = absurd h
    by-source (stop.Source fault) h =
        let here = subst (λ (t : Told). OnKept t (λ source. (length source ≤ limit_of file.Source) × HasFault source fault)) files.source_told h.1 in
        absurd (unfaulted files.bytes program fault h.0 here.1 files.limits files.spelled)
    by-source stop.NotBuilt h = absurd h
    by-source (stop.Suite fault) h = absurd h
    by-source stop.NoRanker h = absurd h
    by-source (stop.NoCandidate picked count) h = absurd h

    by-tests : (why : Stop) → StopsAtTests old new tests why → CutShort why
    by-tests stop.Memory h = wants_memory refl
    by-tests (stop.ReadFailed file.Tests) h = fails_to_read refl (inr h)
    by-tests (stop.ReadFailed file.Source) h = absurd h
    by-tests (stop.ReadFailed file.Cert) h = absurd h
    by-tests (stop.TooLong file.Tests) h =
        absurd (not-long (length files.rows) (limit_of file.Tests) files.tests_short (subst (λ (t : Told). IsLong t file.Tests) files.tests_told h))
    by-tests (stop.TooLong file.Source) h = absurd h
    by-tests (stop.TooLong file.Cert) h = absurd h
    by-tests (stop.Suite fault) h =
        let here = subst (λ (t : Told). OnKept t (λ tests. (length tests ≤ limit_of file.Tests) × Reads tests (Err fault))) files.tests_told h.1 in
        absurd (h.0 (suites_have_no_fault files.rows suite.tests fault files.tested here.1))
    by-tests (stop.Source fault) h = absurd h
    by-tests stop.NotBuilt h = absurd h
    by-tests stop.NoRanker h = absurd h
    by-tests (stop.NoCandidate picked count) h = absurd h

    pub by-files : (why : Stop) → StopsAtFiles old new source tests why → CutShort why
    by-files why (at_source h) = by-source why h
    by-files why (at_tests fine h) = by-tests why h

    pub by-run : (why : Stop) → RunStops old new source tests why → CutShort why
    by-run why (at_files h) = by-files why h
    by-run why (memory e) = wants_memory (ap stop_status e)

-- ---- after more calls

risen : (before mid now : ℕ) → Rose before mid → mid ≤ now → Rose before now
risen before mid now rose less = omega arith

pub cut-short-later : (old mid new : Seen) (source tests : List ℕ) (status : ℕ) → NoLess mid new → IsCutShort old mid source tests status → IsCutShort old new source tests status
cut-short-later old mid new source tests status less (wants_memory e) = wants_memory e
cut-short-later old mid new source tests status less (fails_to_read e (inl rose)) = fails_to_read e (inl (risen _ _ _ rose (less.reads source)))
cut-short-later old mid new source tests status less (fails_to_read e (inr rose)) = fails_to_read e (inr (risen _ _ _ rose (less.reads tests)))
