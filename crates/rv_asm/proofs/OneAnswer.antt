-- The causes exclude each other, and what is assembled: a text has one answer, or Memory in its place.
use Rattle.std.proofs.Common.{◌≡◌, ℕ, ◌-◌, ◌<◌, List, length, true, inl, inr, refl, sym, ap, ◌∙◌, arith}
use Rattle.std.specs.Prelude.{◌⊎◌, is_ok, Result, Ok, Err, MatchResult}
use Rattle.std.proofs.lemmas.Bool.{cases_order}
use Rattle.rv_asm.specs.declared.assembly.Assembly.{Assembly}
use Rattle.rv_asm.specs.declared.error.AsmError.{AsmError}
use Rattle.rv_asm.specs.declared.error.AsmError.TheVariants as error
use Rattle.rv_asm.specs.declared.error.Fault.{Fault}
use Rattle.rv_asm.specs.declared.given.Given.{Given}
use Rattle.rv_asm.specs.Assembled.{Assembled, IsFirstFault, HasNoCode, IsTextRefused, AreFaultless, code_of_lines, given_at}
use Rattle.rv_asm.specs.Counted.{IsAssembly}
use Rattle.rv_asm.specs.Exact.{file_in, IsExact}
use Rattle.rv_asm.specs.Lines.{lines_of}

not_ok : (given : Result Given Fault) (fault : Fault) → is_ok given ≡ true → given ≡ Err fault → ⊥
not_ok (Ok given) fault is e = absurd (cc)
not_ok (Err other) fault is e = absurd (cc)

same_fault : (given : Result Given Fault) (f g : Fault) → given ≡ Err f → given ≡ Err g → f ≡ g
same_fault given f g d e = cc

-- no line before a number is at fault, so that of the fault is at least that number
before_fault : (text : List ℕ) (fault : Fault) (m n : ℕ) → AreFaultless (lines_of text) m → IsFirstFault text fault n → n - 1 < m → ⊥
before_fault text fault m n free x less = not_ok (given_at (lines_of text) (n - 1)) fault (free (n - 1) less) x.found

pub faultless : (text : List ℕ) (fault : Fault) (n : ℕ) → AreFaultless (lines_of text) (length (lines_of text)) → IsFirstFault text fault n → ⊥
faultless text fault n free x = before_fault text fault (length (lines_of text)) n free x (omega (arith, x.least, x.inside))

pub some_code : (text bytes : List ℕ) → Assembled text bytes → HasNoCode text → ⊥
some_code text bytes a x =
    let none : length (code_of_lines (lines_of text) (length (lines_of text))) ≡ 0 = ap length x.none in
    absurd (omega (arith, a.code, none))

one_fault : (text : List ℕ) (f g : Fault) (m n : ℕ) → IsFirstFault text f m → IsFirstFault text g n → error.Line f m ≡ error.Line g n
one_fault text f g m n x y = by (cases_order (m - 1) (n - 1)) where
  by : (m - 1 ≡ n - 1) ⊎ ((m - 1 < n - 1) ⊎ (n - 1 < m - 1)) → error.Line f m ≡ error.Line g n
  by (inl e) =
      let line : m ≡ n = omega (arith, x.least, y.least) in
      let fault = same_fault (given_at (lines_of text) (m - 1)) f g x.found (ap (given_at (lines_of text)) e ∙ y.found) in
      λ i. error.Line (fault i) (line i)
  by (inr (inl less)) = absurd (before_fault text f (n - 1) m y.before x less)
  by (inr (inr less)) = absurd (before_fault text g (m - 1) n x.before y less)

pub exact_of :
    (text : List ℕ) (r : Result (List ℕ) AsmError) → MatchResult r (λ bytes. Assembled text bytes) (λ e. IsTextRefused text e)
    → IsExact text r
exact_of text (Ok bytes) a = record {
  assembled = λ other b. inl (ap Ok (a.file ∙ sym b.file));
  refused = λ f n x. absurd (faultless text f n a.faultless x);
  no_code = λ x. absurd (some_code text bytes a x);
}
exact_of text (Err (error.Line f n)) x = record {
  assembled = λ bytes a. absurd (faultless text f n a.faultless x);
  refused = λ g m y. inl (ap Err (one_fault text f g n m x y));
  no_code = λ y. absurd (faultless text f n y.faultless x);
}
exact_of text (Err error.NoCode) x = record {
  assembled = λ bytes a. absurd (some_code text bytes a x);
  refused = λ g m y. absurd (faultless text g m x.faultless y);
  no_code = λ y. inl refl;
}
exact_of text (Err error.Memory) x = record { assembled = λ bytes a. inr refl; refused = λ g m y. inr refl; no_code = λ y. inr refl }

pub counted_exact :
    (text : List ℕ) (r : Result Assembly AsmError) → MatchResult r (λ made. IsAssembly text made) (λ e. IsTextRefused text e)
    → IsExact text (file_in r)
counted_exact text (Ok made) h = exact_of text (Ok made.file) h.file
counted_exact text (Err e) h = exact_of text (Err e) h
