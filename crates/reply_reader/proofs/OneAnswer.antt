-- `Refusal::try_from` answers a number by a rule (`RefusalTold`): two answers that meet it are equal. Assumes nothing.
use Prim.Native.Nat.{ℕ}
use mathlib.Core.Path.{◌≡◌, refl, sym, ap, ◌∙◌}
use mathlib.Core.Bool.{true≢false}
use mathlib.Core.List.{[], ◌∷◌}
use lib.ListN.{get_or}
use Rattle.std.specs.Prelude.{Result, Ok, Err}
use Rattle.profile.specs.Frame.{code}
use Rattle.codes.specs.Codes.{refusal_meant, RefusalTold}
use Rattle.codes.specs.declared.refusal.Refusal.{Refusal}
use Rattle.codes.specs.declared.refusal.Refusal.TheVariants.{FieldIntegrityVerificationFailed, ParameterFailed, RequestNotSupported, HandleNotFound, DuplicateHandle, UnexpectedRequest, NotEnoughSpace, CountRaised}
use Rattle.codes.specs.declared.refusal.NoRefusal.{NoRefusal}

-- a status is that of one refusal
abbrev numbered : ℕ → Refusal
numbered n = get_or (CountRaised ∷ FieldIntegrityVerificationFailed ∷ ParameterFailed ∷ RequestNotSupported ∷ HandleNotFound ∷ DuplicateHandle ∷ UnexpectedRequest ∷ NotEnoughSpace ∷ []) n CountRaised

back : (r : Refusal) → numbered (code (refusal_meant r)) ≡ r
back FieldIntegrityVerificationFailed = refl
back ParameterFailed = refl
back RequestNotSupported = refl
back HandleNotFound = refl
back DuplicateHandle = refl
back UnexpectedRequest = refl
back NotEnoughSpace = refl
back CountRaised = refl

-- and no refusal's status is 0 or no status
told : (r : Refusal) (e : NoRefusal) → RefusalTold (code (refusal_meant r)) (Err e) → ⊥
told FieldIntegrityVerificationFailed e p = true≢false (sym p)
told ParameterFailed e p = true≢false (sym p)
told RequestNotSupported e p = true≢false (sym p)
told HandleNotFound e p = true≢false (sym p)
told DuplicateHandle e p = true≢false (sym p)
told UnexpectedRequest e p = true≢false (sym p)
told NotEnoughSpace e p = true≢false (sym p)
told CountRaised e p = true≢false (sym p)

pub one_refusal : (n : ℕ) (a b : Result Refusal NoRefusal) → RefusalTold n a → RefusalTold n b → a ≡ b
one_refusal n (Ok r) (Ok q) p s = ap Ok (sym (back r) ∙ ap numbered (p ∙ sym s) ∙ back q)
one_refusal n (Ok r) (Err e) p s = absurd (told r e (rw p s))
one_refusal n (Err e) (Ok q) p s = absurd (told q e (rw s p))
one_refusal n (Err e) (Err f) p s = refl
