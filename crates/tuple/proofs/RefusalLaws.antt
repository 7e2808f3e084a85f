-- Each refusal is the one of its number, and each number that of its refusal, case by case.
use mathlib.Core.Path.{refl}
use Prim.Native.Nat.{zero, suc}
use native.Mathlib.Omega.{arith}
use Rattle.tuple.specs.declared.refusal.Refusal.TheVariants.{Unsound, Cut, Beyond, Unknown, Misshapen, Stranger, Denied, Full, LongScript, NoRoom, Unfit, SecondProposal, Unborne, Unreached, Unscripted}
use Rattle.tuple.specs.Laws.{Numbered, NumberedBack}

pub numbered : Numbered
numbered Unsound = refl
numbered Cut = refl
numbered Beyond = refl
numbered Unknown = refl
numbered Misshapen = refl
numbered Stranger = refl
numbered Denied = refl
numbered Full = refl
numbered LongScript = refl
numbered NoRoom = refl
numbered Unfit = refl
numbered SecondProposal = refl
numbered Unborne = refl
numbered Unreached = refl
numbered Unscripted = refl

pub numbered-back : NumberedBack
numbered-back zero least most = absurd (omega arith)
numbered-back (suc zero) least most = refl
numbered-back (suc (suc zero)) least most = refl
numbered-back (suc (suc (suc zero))) least most = refl
numbered-back (suc (suc (suc (suc zero)))) least most = refl
numbered-back (suc (suc (suc (suc (suc zero))))) least most = refl
numbered-back (suc (suc (suc (suc (suc (suc zero)))))) least most = refl
numbered-back (suc (suc (suc (suc (suc (suc (suc zero))))))) least most = refl
numbered-back (suc (suc (suc (suc (suc (suc (suc (suc zero)))))))) least most = refl
numbered-back (suc (suc (suc (suc (suc (suc (suc (suc (suc zero))))))))) least most = refl
numbered-back (suc (suc (suc (suc (suc (suc (suc (suc (suc (suc zero)))))))))) least most = refl
numbered-back (suc (suc (suc (suc (suc (suc (suc (suc (suc (suc (suc zero))))))))))) least most = refl
numbered-back (suc (suc (suc (suc (suc (suc (suc (suc (suc (suc (suc (suc zero)))))))))))) least most = refl
numbered-back (suc (suc (suc (suc (suc (suc (suc (suc (suc (suc (suc (suc (suc zero))))))))))))) least most = refl
numbered-back (suc (suc (suc (suc (suc (suc (suc (suc (suc (suc (suc (suc (suc (suc zero)))))))))))))) least most = refl
numbered-back (suc (suc (suc (suc (suc (suc (suc (suc (suc (suc (suc (suc (suc (suc (suc zero))))))))))))))) least most = refl
numbered-back (suc (suc (suc (suc (suc (suc (suc (suc (suc (suc (suc (suc (suc (suc (suc (suc n)))))))))))))))) least most = absurd (omega arith)
