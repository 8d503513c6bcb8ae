-- What the kinds have in common (RISC-V unprivileged manual, RV64I and the M extension).
use Rattle.std.specs.Prelude.{Bool, true, false, not}
use Rattle.rv_isa.specs.declared.class.Class.{Class}
use Rattle.rv_isa.specs.declared.class.Class.TheVariants as class
use Rattle.rv_isa.specs.declared.kind.Kind.{Kind}
use Rattle.rv_isa.specs.declared.kind.Kind.TheVariants.{Illegal, Lui, Auipc, Jal, Jalr, Beq, Bne, Blt, Bge, Bltu, Bgeu, Lb, Lh, Lw, Ld, Lbu, Lhu, Lwu, Sb, Sh}
use Rattle.rv_isa.specs.declared.kind.Kind.TheVariants.{Sw, Sd, Addi, Slti, Sltiu, Xori, Ori, Andi, Slli, Srli, Srai, Fence, Ecall, Ebreak, Addiw, Slliw}
use Rattle.rv_isa.specs.declared.kind.Kind.TheVariants.{Srliw, Sraiw}

-- what an instruction of the kind does
abbrev pub class_of : Kind → Class
class_of Illegal = class.Illegal
class_of Jal = class.Jump
class_of Jalr = class.JumpReg
class_of Beq = class.Branch
class_of Bne = class.Branch
class_of Blt = class.Branch
class_of Bge = class.Branch
class_of Bltu = class.Branch
class_of Bgeu = class.Branch
class_of Lb = class.Load
class_of Lh = class.Load
class_of Lw = class.Load
class_of Ld = class.Load
class_of Lbu = class.Load
class_of Lhu = class.Load
class_of Lwu = class.Load
class_of Sb = class.Store
class_of Sh = class.Store
class_of Sw = class.Store
class_of Sd = class.Store
class_of Fence = class.Fence
class_of Ecall = class.End
class_of Ebreak = class.Break
class_of _ = class.Compute

-- the classes that write rd
abbrev pub writes_rd : Class → Bool
writes_rd class.Compute = true
writes_rd class.Load = true
writes_rd class.Jump = true
writes_rd class.JumpReg = true
writes_rd _ = false

-- the computing kinds that have an immediate in the place of rs2
abbrev pub has_immediate : Kind → Bool
has_immediate Lui = true
has_immediate Auipc = true
has_immediate Addi = true
has_immediate Slti = true
has_immediate Sltiu = true
has_immediate Xori = true
has_immediate Ori = true
has_immediate Andi = true
has_immediate Slli = true
has_immediate Srli = true
has_immediate Srai = true
has_immediate Addiw = true
has_immediate Slliw = true
has_immediate Srliw = true
has_immediate Sraiw = true
has_immediate _ = false

-- whether an instruction reads rs1
abbrev pub reads_rs1 : Class → Kind → Bool
reads_rs1 class.Compute Lui = false
reads_rs1 class.Compute Auipc = false
reads_rs1 class.Compute _ = true
reads_rs1 class.Load _ = true
reads_rs1 class.Store _ = true
reads_rs1 class.Branch _ = true
reads_rs1 class.JumpReg _ = true
reads_rs1 _ _ = false

-- whether an instruction reads rs2
abbrev pub reads_rs2 : Class → Kind → Bool
reads_rs2 class.Compute k = not (has_immediate k)
reads_rs2 class.Store _ = true
reads_rs2 class.Branch _ = true
reads_rs2 _ _ = false
