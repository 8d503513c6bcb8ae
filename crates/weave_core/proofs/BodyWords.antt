-- An instruction of a body, by its class.
use Rattle.std.proofs.Common.{◌≡◌, refl}
use Rattle.machine.specs.Step.{Ins, Class, class_of}
use Rattle.rv_isa.specs.declared.class.Class.TheVariants as class
use Rattle.weave_core.specs.Blocks.{IsBody, FitsPiece}

-- it computes, loads, stores or is a FENCE
pub data IsBodyWord (i : Ins) : Type 0 where
  body_computes : class_of i.kind ≡ class.Compute → IsBodyWord i
  body_loads : class_of i.kind ≡ class.Load → IsBodyWord i
  body_stores : class_of i.kind ≡ class.Store → IsBodyWord i
  body_fences : class_of i.kind ≡ class.Fence → IsBodyWord i

-- each instruction that fits a piece is a word of a body
pub body_word : (i : Ins) → FitsPiece i → IsBodyWord i
body_word i f = by_class (class_of i.kind) refl f.body where
  by_class : (k : Class) → class_of i.kind ≡ k → IsBody k → IsBodyWord i
  by_class class.Compute e b = body_computes e
  by_class class.Load e b = body_loads e
  by_class class.Store e b = body_stores e
  by_class class.Fence e b = body_fences e
  by_class k e b = absurd b
