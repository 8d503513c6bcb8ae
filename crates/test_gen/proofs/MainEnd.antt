-- The run of `main` of a generated test ends after three rounds.
use Rattle.std.proofs.Common.{◌≡◌, ℕ, ◌+◌, ◌-◌, ◌*◌, ◌≤◌, List, refl, ap, ◌∙◌, subst, arith}
use Rattle.std.specs.Prelude.{pos, negsuc}
use Rattle.rv_isa.specs.declared.class.Class.TheVariants as class
use Rattle.machine.specs.declared.outcome.Outcome.TheVariants.{Ended}
use Rattle.machine.specs.Memory.{Memory}
use Rattle.machine.specs.Values.{value}
use Rattle.machine.specs.Step.{State, reg, stopped, computed_value, next_pc, step, execute, ins, Lui, Bne, Addi, Ecall}
use Rattle.machine.proofs.Lemmas.{step-class, Walk, walk_one, walk_on}
use Rattle.test_gen.specs.Code.{main}
use Rattle.test_gen.specs.Ends.{EndsAfter, run_steps}
use Rattle.test_gen.proofs.Runs.{IsGood, Goes}
use Rattle.test_gen.proofs.MainRun as in_main
use Rattle.test_gen.proofs.MainRun.{IsMade, IsSet, IsIn, Comes, branch_taken, branch_not}

module _ (m : Memory) (ranges : List (ℕ × ℕ)) (seed n : ℕ) (made : IsMade m ranges seed n) (some : 1 ≤ n) where
  -- the state of `main` after its table register is set
  set_table : (s : State) (pc to table next rounds left : ℕ) → IsIn m ranges seed n made s pc table rounds left → (a : IsSet m ranges seed n made s to 4 next) → IsIn m ranges seed n made a.end to next rounds left
  set_table s pc to table next rounds left h a = record { good = a.good; zero_is = a.others 0 refl ∙ h.zero_is; base = a.others 2 refl ∙ h.base; at = a.at; table_is = a.is; rounds_are = a.others 8 refl ∙ h.rounds_are; left_are = a.others 9 refl ∙ h.left_are }

  set_left : (s : State) (pc to table rounds left next : ℕ) → IsIn m ranges seed n made s pc table rounds left → (a : IsSet m ranges seed n made s to 9 next) → IsIn m ranges seed n made a.end to table rounds next
  set_left s pc to table rounds left next h a = record { good = a.good; zero_is = a.others 0 refl ∙ h.zero_is; base = a.others 2 refl ∙ h.base; at = a.at; table_is = a.others 4 refl ∙ h.table_is; rounds_are = a.others 8 refl ∙ h.rounds_are; left_are = a.is }

  set_rounds : (s : State) (pc to table rounds left next : ℕ) → IsIn m ranges seed n made s pc table rounds left → (a : IsSet m ranges seed n made s to 8 next) → IsIn m ranges seed n made a.end to table next left
  set_rounds s pc to table rounds left next h a = record { good = a.good; zero_is = a.others 0 refl ∙ h.zero_is; base = a.others 2 refl ∙ h.base; at = a.at; table_is = a.others 4 refl ∙ h.table_is; rounds_are = a.is; left_are = a.others 9 refl ∙ h.left_are }

  -- the words before the calls of a round
  table_word : (s : State) (table rounds left : ℕ) → IsIn m ranges seed n made s 0x10008 table rounds left → Comes m ranges seed n made s 1 0x1000c 0x80000 rounds left
  unfolding main computed_value
  table_word s table rounds left h =
      let a = in_main.compute m ranges seed n made (ins Lui 4 0 0 (pos 0x80000)) s 0x10008 0x80000 h.good h.at (omega arith) made.main_there.1.1.0 refl (omega arith) (omega arith) refl in
      record { end = a.end; walk = a.walk; is_in = set_table s 0x10008 0x1000c table 0x80000 rounds left h a }

  count_word : (s : State) (table rounds left : ℕ) → IsIn m ranges seed n made s 0x1000c table rounds left → Comes m ranges seed n made s 1 0x10010 table rounds n
  unfolding main computed_value value
  count_word s table rounds left h =
      let few = made.few in
      let zero_s = h.zero_is in
      let a = in_main.compute m ranges seed n made (ins Addi 9 0 0 (pos n)) s 0x1000c n h.good h.at (omega arith) made.main_there.1.1.1.0 refl (omega arith) (omega arith) (omega (arith, zero_s, few)) in
      record { end = a.end; walk = a.walk; is_in = set_left s 0x1000c 0x10010 table rounds left n h a }

  -- the word behind the calls of a round
  round_word : (s : State) (table before rounds left : ℕ) → before ≡ rounds + 1 → before ≤ 3 → IsIn m ranges seed n made s 0x10024 table before left → Comes m ranges seed n made s 1 0x10028 table rounds left
  unfolding main computed_value value
  round_word s table before rounds left less most h =
      let count = h.rounds_are in
      let a = in_main.compute m ranges seed n made (ins Addi 8 8 0 (negsuc 0)) s 0x10024 rounds h.good h.at (omega arith) made.main_there.1.1.1.1.1.1.1.1.1.0 refl (omega arith) (omega arith) (omega (arith, count, less, most)) in
      record { end = a.end; walk = a.walk; is_in = set_rounds s 0x10024 0x10028 table before left rounds h a }

  on_from :
      (s : State) (i k all pc table rounds left to last over rest : ℕ) → (c : Comes m ranges seed n made s i pc table rounds left)
      → ((t : State) → IsIn m ranges seed n made t pc table rounds left → Comes m ranges seed n made t k to last over rest) → i + k ≡ all
      → Comes m ranges seed n made s all to last over rest
  on_from s i k all pc table rounds left to last over rest c d e = in_main.comes_on m ranges seed n made s c.end i k all to last over rest c.walk (d c.end c.is_in) e

  -- a round, up to its branch
  round :
      (s : State) (table before rounds left : ℕ) → before ≡ rounds + 1 → before ≤ 3 → IsIn m ranges seed n made s 0x10008 table before left
      → Comes m ranges seed n made s (3 + 38 * n) 0x10028 (0x80000 + 8 * n) rounds 0
  round s table before rounds left less most h =
      on_from s (2 + 38 * n) 1 (3 + 38 * n) 0x10024 (0x80000 + 8 * n) before 0 0x10028 (0x80000 + 8 * n) rounds 0
      (on_from s 2 (38 * n) (2 + 38 * n) 0x10010 0x80000 before n 0x10024 (0x80000 + 8 * n) before 0
      (on_from s 1 1 2 0x1000c 0x80000 before left 0x10010 0x80000 before n (table_word s table before left h) (λ t i. count_word t 0x80000 before left i) refl)
      (λ t i. in_main.table_loop m ranges seed n made (n - 1) 0 n t before (omega (arith, some)) (omega arith) i) refl)
      (λ t i. round_word t (0x80000 + 8 * n) before rounds 0 less most i) (omega arith)

  -- the branch behind a round
  again : (s : State) (table rounds left : ℕ) → IsIn m ranges seed n made s 0x10028 table (rounds + 1) left → Comes m ranges seed n made s 1 0x10008 table (rounds + 1) left
  unfolding main
  again s table rounds left h =
      let g = h.good in
      let at = h.at in
      let bne = ins Bne 0 8 0 (negsuc 31) in
      in_main.moved_in m ranges seed n made s 0x10028 0x10008 0x10008 table (rounds + 1) left h
      (branch_taken bne s 0x10008 g.going (in_main.fetched m ranges seed n made s bne 0x10028 g at (omega arith) made.main_there.1.1.1.1.1.1.1.1.1.1.0) refl (in_main.differs m ranges seed n made (reg s 8) (reg s 0) rounds h.rounds_are h.zero_is) (omega (arith, at)) (omega arith))
      refl

  over : (s : State) (table left : ℕ) → IsIn m ranges seed n made s 0x10028 table 0 left → Comes m ranges seed n made s 1 0x1002c table 0 left
  unfolding main
  over s table left h =
      let g = h.good in
      let bne = ins Bne 0 8 0 (negsuc 31) in
      in_main.moved_in m ranges seed n made s 0x10028 0x1002c (next_pc s) table 0 left h
      (branch_not bne s g.going (in_main.fetched m ranges seed n made s bne 0x10028 g h.at (omega arith) made.main_there.1.1.1.1.1.1.1.1.1.1.0) refl (in_main.agrees m ranges seed n made (reg s 8) (reg s 0) h.rounds_are h.zero_is))
      (in_main.next_four m ranges seed n made s 0x10028 h.at (omega arith))

  -- one of the first two rounds
  whole_round :
      (s : State) (table rounds left : ℕ) → rounds ≤ 1 → IsIn m ranges seed n made s 0x10008 table (rounds + 2) left
      → Comes m ranges seed n made s (4 + 38 * n) 0x10008 (0x80000 + 8 * n) (rounds + 1) 0
  whole_round s table rounds left few h =
      on_from s (3 + 38 * n) 1 (4 + 38 * n) 0x10028 (0x80000 + 8 * n) (rounds + 1) 0 0x10008 (0x80000 + 8 * n) (rounds + 1) 0
      (round s table (rounds + 2) (rounds + 1) left (omega arith) (omega (arith, few)) h) (λ t i. again t (0x80000 + 8 * n) rounds 0 i) (omega arith)

  last_round : (s : State) (table left : ℕ) → IsIn m ranges seed n made s 0x10008 table 1 left → Comes m ranges seed n made s (4 + 38 * n) 0x1002c (0x80000 + 8 * n) 0 0
  last_round s table left h =
      on_from s (3 + 38 * n) 1 (4 + 38 * n) 0x10028 (0x80000 + 8 * n) 0 0 0x1002c (0x80000 + 8 * n) 0 0 (round s table 1 0 left refl (omega arith) h) (λ t i. over t (0x80000 + 8 * n) 0 i) (omega arith)

  three_rounds : (s : State) (table left : ℕ) → IsIn m ranges seed n made s 0x10008 table 3 left → Comes m ranges seed n made s (3 * (4 + 38 * n)) 0x1002c (0x80000 + 8 * n) 0 0
  three_rounds s table left h =
      on_from s (2 * (4 + 38 * n)) (4 + 38 * n) (3 * (4 + 38 * n)) 0x10008 (0x80000 + 8 * n) 1 0 0x1002c (0x80000 + 8 * n) 0 0
      (on_from s (4 + 38 * n) (4 + 38 * n) (2 * (4 + 38 * n)) 0x10008 (0x80000 + 8 * n) 2 0 0x10008 (0x80000 + 8 * n) 1 0 (whole_round s table 1 left (omega arith) h) (λ t i. whole_round t (0x80000 + 8 * n) 0 0 (omega arith) i) (omega arith))
      (λ t i. last_round t (0x80000 + 8 * n) 0 i) (omega arith)

  -- the first two words
  opened : (s : State) (a : IsSet m ranges seed n made s 0x10004 2 0x90000) (b : IsSet m ranges seed n made a.end 0x10008 8 3) → reg s 0 ≡ 0 → IsIn m ranges seed n made b.end 0x10008 (reg b.end 4) 3 (reg b.end 9)
  opened s a b h = record { good = b.good; zero_is = b.others 0 refl ∙ a.others 0 refl ∙ h; base = b.others 2 refl ∙ a.is; at = b.at; table_is = refl; rounds_are = b.is; left_are = refl }

  first_word : (s : State) → IsGood m ranges s → s.pc ≡ 0x10000 → IsSet m ranges seed n made s 0x10004 2 0x90000
  unfolding main computed_value
  first_word s g at = in_main.compute m ranges seed n made (ins Lui 2 0 0 (pos 0x90000)) s 0x10000 0x90000 g at (omega arith) made.main_there.0 refl (omega arith) (omega arith) refl

  second_word : (s : State) → IsGood m ranges s → s.pc ≡ 0x10004 → reg s 0 ≡ 0 → IsSet m ranges seed n made s 0x10008 8 3
  unfolding main computed_value value
  second_word s g at h = in_main.compute m ranges seed n made (ins Addi 8 0 0 (pos 3)) s 0x10004 3 g at (omega arith) made.main_there.1.0 refl (omega arith) (omega arith) (omega (arith, h))

  -- the last word
  stop : (s : State) (table : ℕ) → IsIn m ranges seed n made s 0x1002c table 0 0 → step s ≡ stopped Ended s
  unfolding main execute
  stop s table h =
      let g = h.good in
      let ecall = ins Ecall 0 0 0 (pos 0) in
      step-class s ecall class.End g.going (in_main.fetched m ranges seed n made s ecall 0x1002c g h.at (omega arith) made.main_there.1.1.1.1.1.1.1.1.1.1.1.0) refl

  finished : (s : State) (a : IsSet m ranges seed n made s 0x10004 2 0x90000) (b : IsSet m ranges seed n made a.end 0x10008 8 3) (c : Comes m ranges seed n made b.end (3 * (4 + 38 * n)) 0x1002c (0x80000 + 8 * n) 0 0) → EndsAfter s (run_steps n)
  finished s a b c =
      let there = c.is_in in
      let g = there.good in
      let w = walk_on Goes s c.end (stopped Ended c.end) (2 + 3 * (4 + 38 * n)) 1 (walk_on Goes s b.end c.end 2 (3 * (4 + 38 * n)) (walk_on Goes s a.end b.end 1 1 a.walk b.walk) c.walk)
      (walk_one Goes c.end (stopped Ended c.end) g.going (stop c.end (0x80000 + 8 * n) there)) in
      let all : 2 + 3 * (4 + 38 * n) + 1 ≡ run_steps n = omega arith in
      let walk : Walk Goes s (run_steps n) (stopped Ended c.end) = subst (λ k. Walk Goes s k (stopped Ended c.end)) all w in
      record { ends = ap (λ (x : State). x.outcome) walk.ends; going = walk.each }

  -- the run from the entry
  pub ends_after : (s : State) → IsGood m ranges s → reg s 0 ≡ 0 → s.pc ≡ 0x10000 → EndsAfter s (run_steps n)
  ends_after s g h at =
      let a = first_word s g at in
      let b = second_word a.end a.good a.at (a.others 0 refl ∙ h) in
      finished s a b (three_rounds b.end (reg b.end 4) (reg b.end 9) (opened s a b h))
