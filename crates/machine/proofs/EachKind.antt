-- Every kind stands in the list of kinds, so that a test that computes over the list holds of each.
use Rattle.std.proofs.Common.{◌≡◌, ℕ, zero, suc, Bool, true, List, [], ◌∷◌, Some, inl, inr, refl}
use Rattle.std.specs.Prelude.{slice_get}
use Rattle.std.specs.List.{list_all}
use Rattle.std.proofs.lemmas.Bool.{and_parts}
use Rattle.machine.specs.Kinds.{IsAmong}
use Rattle.machine.specs.Table.{Illegal, Lui, Auipc, Jal, Jalr, Beq, Bne, Blt, Bge, Bltu, Bgeu, Lb, Lh, Lw, Ld, Lbu, Lhu, Lwu, Sb, Sh, Sw, Sd, Addi, Slti, Sltiu, Xori, Ori, Andi, Slli, Srli, Srai, Add, Sub, Sll, Slt, Sltu, Xor, Srl, Sra, Or, And, Fence, Ecall, Ebreak, Addiw, Slliw, Srliw, Sraiw, Addw, Subw, Sllw, Srlw, Sraw, Mul, Mulh, Mulhsu, Mulhu, Div, Divu, Rem, Remu, Mulw, Divw, Divuw, Remw, Remuw, Kind, kinds}

-- a kind at a place of a list is in it
has_at : (ks : List Kind) (n : ℕ) (k : Kind) → slice_get ks n ≡ Some k → IsAmong k ks
has_at [] n k e = absurd (cc)
has_at (j ∷ js) zero k e = inl (cc)
has_at (j ∷ js) (suc n) k e = inr (has_at js n k e)

record Stands (k : Kind) : Type 0 where
  at : ℕ
  is : slice_get kinds at ≡ Some k

placed : (k : Kind) → Stands k
placed Illegal = record { at = 0; is = refl }
placed Lui = record { at = 3; is = refl }
placed Auipc = record { at = 4; is = refl }
placed Jal = record { at = 5; is = refl }
placed Jalr = record { at = 6; is = refl }
placed Beq = record { at = 8; is = refl }
placed Bne = record { at = 9; is = refl }
placed Blt = record { at = 10; is = refl }
placed Bge = record { at = 11; is = refl }
placed Bltu = record { at = 12; is = refl }
placed Bgeu = record { at = 13; is = refl }
placed Lb = record { at = 14; is = refl }
placed Lh = record { at = 15; is = refl }
placed Lw = record { at = 16; is = refl }
placed Ld = record { at = 17; is = refl }
placed Lbu = record { at = 18; is = refl }
placed Lhu = record { at = 19; is = refl }
placed Lwu = record { at = 20; is = refl }
placed Sb = record { at = 21; is = refl }
placed Sh = record { at = 22; is = refl }
placed Sw = record { at = 23; is = refl }
placed Sd = record { at = 24; is = refl }
placed Addi = record { at = 25; is = refl }
placed Slti = record { at = 26; is = refl }
placed Sltiu = record { at = 27; is = refl }
placed Xori = record { at = 28; is = refl }
placed Ori = record { at = 29; is = refl }
placed Andi = record { at = 30; is = refl }
placed Slli = record { at = 32; is = refl }
placed Srli = record { at = 33; is = refl }
placed Srai = record { at = 34; is = refl }
placed Add = record { at = 38; is = refl }
placed Sub = record { at = 39; is = refl }
placed Sll = record { at = 40; is = refl }
placed Slt = record { at = 41; is = refl }
placed Sltu = record { at = 42; is = refl }
placed Xor = record { at = 43; is = refl }
placed Srl = record { at = 44; is = refl }
placed Sra = record { at = 45; is = refl }
placed Or = record { at = 46; is = refl }
placed And = record { at = 47; is = refl }
placed Fence = record { at = 7; is = refl }
placed Ecall = record { at = 1; is = refl }
placed Ebreak = record { at = 2; is = refl }
placed Addiw = record { at = 31; is = refl }
placed Slliw = record { at = 35; is = refl }
placed Srliw = record { at = 36; is = refl }
placed Sraiw = record { at = 37; is = refl }
placed Addw = record { at = 48; is = refl }
placed Subw = record { at = 49; is = refl }
placed Sllw = record { at = 50; is = refl }
placed Srlw = record { at = 51; is = refl }
placed Sraw = record { at = 52; is = refl }
placed Mul = record { at = 53; is = refl }
placed Mulh = record { at = 54; is = refl }
placed Mulhsu = record { at = 55; is = refl }
placed Mulhu = record { at = 56; is = refl }
placed Div = record { at = 57; is = refl }
placed Divu = record { at = 58; is = refl }
placed Rem = record { at = 59; is = refl }
placed Remu = record { at = 60; is = refl }
placed Mulw = record { at = 61; is = refl }
placed Divw = record { at = 62; is = refl }
placed Divuw = record { at = 63; is = refl }
placed Remw = record { at = 64; is = refl }
placed Remuw = record { at = 65; is = refl }

pub has_kind : (k : Kind) → IsAmong k kinds
has_kind k = has_at kinds (placed k).at k (placed k).is

-- a test that each of these kinds passes
pub each_in : (p : Kind → Bool) (ks : List Kind) (k : Kind) → list_all p ks ≡ true → IsAmong k ks → p k ≡ true
each_in p [] k e h = absurd h
each_in p (j ∷ js) k e (inl q) = rw q ((and_parts _ _ e).0)
each_in p (j ∷ js) k e (inr h) = each_in p js k (and_parts _ _ e).1 h

-- a test that each kind passes
pub each_kind : (p : Kind → Bool) → list_all p kinds ≡ true → (k : Kind) → p k ≡ true
each_kind p e k = each_in p kinds k e (has_kind k)
