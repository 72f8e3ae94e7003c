-- Which fault it is: want of memory, or of standard output, or another.
use Rattle.std.proofs.Common.{◌≡◌, ◌≢◌, ◌∙◌, Result, Ok, Err, refl, sym, ap, inl, inr}
use Rattle.std.specs.Prelude.{◌⊎◌, IsErrAnd}
use Rattle.csdf_answers.specs.declared.fault.DeviceName.TheVariants as stream
use Rattle.csdf_answers.specs.declared.fault.ToolFault.{ToolFault}
use Rattle.csdf_answers.specs.declared.fault.ToolFault.TheVariants as fault

-- a fault is want of memory, or of standard output, or another
pub which : (f : ToolFault) → (f ≡ fault.Memory) ⊎ ((f ≡ fault.Device stream.Output) ⊎ ((f ≢ fault.Memory) × (f ≢ fault.Device stream.Output)))
which (fault.Graph g) = inr (inr (λ e. cc, λ e. cc))
which (fault.Line n) = inr (inr (λ e. cc, λ e. cc))
which (fault.Unbalanced name) = inr (inr (λ e. cc, λ e. cc))
which (fault.TooLarge name) = inr (inr (λ e. cc, λ e. cc))
which fault.Deadlock = inr (inr (λ e. cc, λ e. cc))
which fault.TooTight = inr (inr (λ e. cc, λ e. cc))
which fault.TooLong = inr (inr (λ e. cc, λ e. cc))
which (fault.TokenSyntax name line) = inr (inr (λ e. cc, λ e. cc))
which (fault.TokenRange name line) = inr (inr (λ e. cc, λ e. cc))
which (fault.TokenCutOff name number) = inr (inr (λ e. cc, λ e. cc))
which (fault.TooManyTokens name) = inr (inr (λ e. cc, λ e. cc))
which (fault.InUse name) = inr (inr (λ e. cc, λ e. cc))
which (fault.Lacks lack) = inr (inr (λ e. cc, λ e. cc))
which fault.Worker = inr (inr (λ e. cc, λ e. cc))
which (fault.Device stream.Input) = inr (inr (λ e. cc, λ e. cc))
which (fault.Device stream.Output) = inr (inl refl)
which (fault.Device (stream.File name)) = inr (inr (λ e. cc, λ e. cc))
which fault.Memory = inl refl

pub memory_or_not : (f : ToolFault) → (f ≡ fault.Memory) ⊎ (f ≢ fault.Memory)
memory_or_not f = by (which f)
  where
    by : (f ≡ fault.Memory) ⊎ ((f ≡ fault.Device stream.Output) ⊎ ((f ≢ fault.Memory) × (f ≢ fault.Device stream.Output)))
        → (f ≡ fault.Memory) ⊎ (f ≢ fault.Memory)
    by (inl memory) = inl memory
    by (inr (inl output)) = inr (λ memory. let no : fault.Memory ≡ fault.Device stream.Output = sym memory ∙ output in cc)
    by (inr (inr none)) = inr none.0

pub output_or_not : (f : ToolFault) → (f ≡ fault.Device stream.Output) ⊎ (f ≢ fault.Device stream.Output)
output_or_not f = by (which f)
  where
    by : (f ≡ fault.Memory) ⊎ ((f ≡ fault.Device stream.Output) ⊎ ((f ≢ fault.Memory) × (f ≢ fault.Device stream.Output)))
        → (f ≡ fault.Device stream.Output) ⊎ (f ≢ fault.Device stream.Output)
    by (inl memory) = inr (λ output. let no : fault.Memory ≡ fault.Device stream.Output = sym memory ∙ output in cc)
    by (inr (inl output)) = inl output
    by (inr (inr none)) = inr none.1

-- the answer is the fault that is passed on
pub err_as : {X : Type 0} (r : Result X ToolFault) (f g : ToolFault) → IsErrAnd r (λ e. e ≡ f) → f ≡ g → r ≡ Err g
err_as (Ok x) f g is same = absurd is
err_as (Err e) f g is same = ap Err (is ∙ same)
