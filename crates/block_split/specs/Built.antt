-- The blocks of a list of words of the code, word by word.
use Rattle.std.specs.Prelude.{◌≡◌, ℕ, Bool, true, false, ◌==◌, if◌then◌else◌, Option, Some, None, List, [], ◌∷◌, ◌++◌, ◌<◌, AllPairs, filter, map, take}
use Rattle.tests.specs.declared.test.CodeWord.{CodeWord}
use Rattle.flow_recovery.specs.Sets.{lists}
use Rattle.block_split.specs.Lengths.{AreLengths}
use Rattle.block_split.specs.declared.block.CodeBlock.{CodeBlock}
use Rattle.block_split.specs.Bodies.{ends, body_size, body_end}

-- the address of the first word
abbrev pub first_at : List CodeWord → ℕ
first_at [] = 0
first_at (w ∷ ws) = w.at

-- the words ascend, and each leader, in ascending order, is the address of one of them
pub record AreAlong (words : List CodeWord) (leaders : List ℕ) : Type 0 where
  pub ascend : AllPairs (λ a b. a < b) (map (λ c. c.at) words)
  pub along : leaders ≡ filter (lists leaders) (map (λ c. c.at) words)

-- the first of some leaders
abbrev pub first : List ℕ → Option ℕ
first [] = None
first (b ∷ bs) = Some b

-- the leaders behind a, of leaders from a on
abbrev pub behind : ℕ → List ℕ → List ℕ
behind a [] = []
behind a (b ∷ bs) = if b == a then bs else b ∷ bs

-- the block that begins with the first word, at a leader
pub record IsLongBlock (leads reached : ℕ → Bool) (most : ℕ) (words : List CodeWord) (b : CodeBlock) : Type 0 where
  pub start : b.start ≡ first_at words
  pub body : b.body ≡ map (λ c. c.ins) (take (body_size leads words) words)
  pub pieces : AreLengths most b.body b.lengths
  pub end : b.end ≡ body_end leads words
  pub marked : b.reached ≡ reached (first_at words)

-- the block of a word that is at no leader
pub record IsShortBlock (w : CodeWord) (b : CodeBlock) : Type 0 where
  pub start : b.start ≡ w.at
  pub body : b.body ≡ (if ends w then [] else w.ins ∷ [])
  pub lengths : b.lengths ≡ (if ends w then 0 else 1) ∷ []
  pub end : b.end ≡ (if ends w then Some w.ins else None)
  pub unmarked : b.reached ≡ false

-- a list of one block with the property
pub record One (P : CodeBlock → Type 0) (bs : List CodeBlock) : Type 0 where
  pub block : CodeBlock
  pub is : bs ≡ block ∷ []
  pub holds : P block

-- the blocks that begin with the first word: one at a leader, one if each address has a block, else none
abbrev pub BegunBlocks : Bool → Bool → (ℕ → Bool) → (ℕ → Bool) → ℕ → List CodeWord → List CodeBlock → Type 0
BegunBlocks leader every leads reached most [] bs = bs ≡ []
BegunBlocks true every leads reached most (w ∷ ws) bs = One (IsLongBlock leads reached most (w ∷ ws)) bs
BegunBlocks false true leads reached most (w ∷ ws) bs = One (IsShortBlock w) bs
BegunBlocks false false leads reached most (w ∷ ws) bs = bs ≡ []

-- adding the blocks that begin with the first word
pub record AddsBlock (leader : Bool) (leads : ℕ → Bool) (every : Bool) (reached : ℕ → Bool)
    (most : ℕ) (words : List CodeWord) (old new : List CodeBlock) : Type 0 where
  pub added : List CodeBlock
  pub new_is : new ≡ old ++ added
  pub begun : BegunBlocks leader every leads reached most words added

-- a list in two parts
pub record TwoParts (P Q : List CodeBlock → Type 0) (bs : List CodeBlock) : Type 0 where
  pub front : List CodeBlock
  pub back : List CodeBlock
  pub is : bs ≡ front ++ back
  pub first : P front
  pub rest : Q back

-- the blocks that begin with any of the words
abbrev pub Built : (ℕ → Bool) → Bool → (ℕ → Bool) → ℕ → List CodeWord → List CodeBlock → Type 0
Built leads every reached most [] bs = bs ≡ []
Built leads every reached most (w ∷ ws) bs = TwoParts (BegunBlocks (leads w.at) every leads reached most (w ∷ ws)) (Built leads every reached most ws) bs
