-- The world at its start: the memory has the bytes of each file.
use Rattle.std.proofs.Common.{◌≡◌, ◌≢◌, ℕ, zero, suc, Bool, true, false, List, [], ◌∷◌, is_some, refl, sym, ap, ◌∙◌, subst, arith}
use Rattle.std.specs.Option.{option_map}
use Rattle.std.specs.FinMap.{get, find}
use Rattle.std.specs.Ordering.{nat_cmp}
use Rattle.std.proofs.lemmas.Option.{slice_get-map}
use Rattle.machine.specs.Program.{Program, cells_of, memory_of, start, zeros}
use Rattle.qed_model.specs.Promise.Kept.{is_mapped}
use Rattle.machine.proofs.Lemmas.{cells_of-append, get_memory, find_front, find_skip}
use Rattle.harts.specs.Harts.{hart_of, all_segments, begin_harts}
use Rattle.harts.specs.Together.{IsProgram, AreDisjoint}
use Rattle.harts.proofs.Turns.{Stand}

-- if no earlier file has the byte, what is found is the file's
find_mine : (gs : List Program) (i : ℕ) (g : Program) (q : ℕ) → IsProgram gs i g → is_some (find nat_cmp q (cells_of g.segments)) ≡ true → ((j : ℕ) (h : Program) → j ≢ i → IsProgram gs j h → is_some (find nat_cmp q (cells_of h.segments)) ≡ false) → find nat_cmp q (cells_of (all_segments gs)) ≡ find nat_cmp q (cells_of g.segments)
find_mine [] i g q e some none = absurd (cc)
find_mine (x ∷ gs) zero g q e some none =
    let is : x ≡ g = cc in
    ap (find nat_cmp q) (cells_of-append x.segments (all_segments gs))
    ∙ find_front (cells_of x.segments) (cells_of (all_segments gs)) q (subst (λ y. is_some (find nat_cmp q (cells_of y.segments)) ≡ true) (sym is) some)
    ∙ ap (λ y. find nat_cmp q (cells_of y.segments)) is
find_mine (x ∷ gs) (suc i) g q e some none =
    ap (find nat_cmp q) (cells_of-append x.segments (all_segments gs))
    ∙ find_skip (cells_of x.segments) (cells_of (all_segments gs)) q (none 0 x (λ k. absurd (omega (arith, k))) refl)
    ∙ find_mine gs i g q e some (λ j h n k. none (suc j) h (λ z. n (omega (arith, z))) k)

-- a byte that the file maps is found among its cells
found : (g : Program) (q : ℕ) (b : Bool) → is_mapped g q ≡ b → is_some (find nat_cmp q (cells_of g.segments)) ≡ b
found g q b e = ap is_some (sym (get_memory g.segments q)) ∙ e

-- the memory of all files has the cells of each
pub start_cells : (gs : List Program) → AreDisjoint gs → (i : ℕ) (g : Program) → IsProgram gs i g → (q : ℕ) → is_mapped g q ≡ true → get (memory_of (all_segments gs)) q ≡ get (memory_of g.segments) q
start_cells gs files i g e q o =
    get_memory (all_segments gs) q
    ∙ find_mine gs i g q e (found g q true o) (λ j h n k. found h q false (other (is_mapped h q) j h n k refl))
    ∙ sym (get_memory g.segments q) where
      other : (b : Bool) (j : ℕ) (h : Program) → j ≢ i → IsProgram gs j h → is_mapped h q ≡ b → is_mapped h q ≡ false
      other true j h n k m = absurd (files.apart j i h g k e n q m o)
      other false j h n k m = m

-- each hart stands as its file starts
pub stand_first : (gs : List Program) → AreDisjoint gs → Stand gs (begin_harts gs) (λ i g. start g zeros)
stand_first gs files = record {
  harts = λ i g e. slice_get-map (λ g. hart_of (start g zeros)) gs i ∙ ap (option_map (λ g. hart_of (start g zeros))) e;
  none = λ i e. slice_get-map (λ g. hart_of (start g zeros)) gs i ∙ ap (option_map (λ g. hart_of (start g zeros))) e;
  holds = λ i g e. record { cells = λ q o. start_cells gs files i g e q o; mapped = λ q. refl };
}
