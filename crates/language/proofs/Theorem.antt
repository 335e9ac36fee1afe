-- The theorem's proof, from Soundness.
use mathlib.Core.Path.{◌≡◌, subst, subst₂}
use mathlib.Core.List.{List, map}
use mathlib.Core.Option.{Option}
use Prim.Native.Nat.{ℕ}
use native.Mathlib.Omega.{arith}
use lib.IntN.{pos}
use lib.ListN.{length}
use Rattle.language.specs.Machine.{Outcome}
use Rattle.language.specs.Result.{Answer, finished, if_accepted, instance_outcome}
use Rattle.language.specs.Lookup.{Declaration}
use Rattle.language.specs.Sound.{wires_of, Sound}
use Rattle.language.specs.Sizes.{bytes_of_sizes}
use Rattle.language.specs.Theorem.{Reports, RunTheorem, instance_at, InstanceTheorem, SizesTheorem}
use Rattle.language.proofs.Refusals.{accepted}
use Rattle.language.proofs.Instances.{no_family_lem, takes_family_lem, miscounted, too_large_lem}
use Rattle.language.proofs.Sizes.{every_size_said}
use Rattle.language.proofs.Soundness.{run_reports, instance_reports}

pub run_theorem : RunTheorem
run_theorem = run_reports

pub instance_theorem : InstanceTheorem
unfolding instance_outcome if_accepted
instance_theorem program family sizes limit output e = let a = accepted program e in
    record {
      no_family = λ i. rw a.1 (no_family_lem program family limit output sizes i);
      takes_family = λ d i t. rw a.1 (takes_family_lem program family limit output sizes d i t);
      miscounted = λ d i t h. rw a.1 (miscounted program family limit output sizes d i t h);
      too_large = λ d i t h k. rw a.1 (too_large_lem program family limit output sizes d i t h k);
      suited = instance_reports program family sizes limit output e;
    }

pub sizes_theorem : SizesTheorem
sizes_theorem program family d sizes limit output e i t c h =
    let b = every_size_said sizes h in
    let r = instance_reports program family (bytes_of_sizes sizes) limit output e (record { called = d; declared = i; plain = t; counted = omega (arith, b.count); small = b.small }) in
    subst₂ (λ (xs : List ℕ) (o : Option Declaration). Reports 23 limit (wires_of o (map pos xs)) 0 output (instance_at program family xs limit (length output)) (instance_outcome program family (bytes_of_sizes sizes) limit output)) b.say i r

-- an answer that reports a machine is sound
pub reported_sound : {A : Type 0} {least limit q b : ℕ} {lent : List ℕ} {o : Outcome A} {a : Answer} → Reports least limit q b lent o (finished a) → Sound least limit q b lent a
reported_sound {A} {least} {limit} {q} {b} {lent} {o} {a} r =
    let i : r.answer ≡ a = cc r.is in
    subst (λ (x : Answer). Sound least limit q b lent x) i r.sound
