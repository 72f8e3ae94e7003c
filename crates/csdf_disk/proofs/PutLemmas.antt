-- Calls of the system, one after another.
use Rattle.std.proofs.Common.{◌≡◌, ◌≢◌, ℕ, Bool, true, false, List, [], ◌∷◌, ◌++◌, refl, ap, sym, subst, ◌∙◌, append_assoc, Ok, Err, Option, Some, None, option_map}
use Rattle.std.specs.Prelude.{Result, IfErr, IfSome, IsErrAnd, OnOk, is_ok}
use Rattle.std.specs.Fs.{permissions_mode}
use Rattle.std.specs.declared.fs.permissions.Permissions.{Permissions}
use Rattle.std.specs.declared.io.Error.{Error}
use Rattle.std.proofs.lemmas.List.{append-nil, map-append}
use Rattle.csdf_disk.specs.SystemCalls.{Call, Called, IsCut, Permit, Remove, Step, Steps, StepsWith, part_of, permits, well}
use Rattle.csdf_disk.specs.declared.put_fault.PutFault.{PutFault}
use Rattle.csdf_disk.specs.declared.put_fault.PutFault.TheVariants.{Device, Memory}

pub called_none : (before : Option (List Call)) → Called before before []
called_none None = tt
called_none (Some done) = ap Some (sym (append-nil done))

pub called_more : (a b c : Option (List Call)) (xs ys : List Call) → Called a b xs → Called b c ys → Called a c (xs ++ ys)
called_more None b c xs ys p q = tt
called_more (Some done) b c xs ys p q =
    let later : c ≡ Some ((done ++ xs) ++ ys) = subst (λ (o : Option (List Call)). IfSome o (λ d. c ≡ Some (d ++ ys))) p q in
    later ∙ ap Some (append_assoc done xs ys)

well_more : (xs ys : List Step) → well (xs ++ ys) ≡ well xs ++ well ys
well_more xs ys = map-append (λ (step : Step). step true) xs ys

-- ---- one step

pub one_failed : (step : Step) (a b : Option (List Call)) (why : PutFault) → why ≡ Device → Called a b (step false ∷ []) → Steps (step ∷ []) a b (Err why)
one_failed step a b why device called =
    (device, step false ∷ [], called, record { front = []; failed = step; rest = []; split = refl; called = refl })

module _ (step : Step) (a b : Option (List Call)) (call : Result (Unit {0}) Error) (called : Called a b (step (is_ok call) ∷ [])) where
  pub one_step : (r : Result (Unit {0}) PutFault) → OnOk r (is_ok call ≡ true) → IfErr r (λ why. (why ≡ Device) × (is_ok call ≡ false)) → Steps (step ∷ []) a b r
  one_step (Ok u) went failed = subst (λ w. Called a b (step w ∷ [])) went called
  one_step (Err why) went failed = one_failed step a b why failed.0 (subst (λ w. Called a b (step w ∷ [])) failed.1 called)

  pub one_call : (r : Result (Unit {0}) PutFault) → OnOk r (is_ok call ≡ true) → IfErr r (λ why. (why ≡ Device) × (is_ok call ≡ false))
      → Called a b (step (is_ok r) ∷ [])
  one_call (Ok u) went failed = subst (λ w. Called a b (step w ∷ [])) went called
  one_call (Err why) went failed = subst (λ w. Called a b (step w ∷ [])) failed.1 called

pub no_memory : (went : Bool) (r : Result (Unit {0}) PutFault) → IfErr r (λ why. (why ≡ Device) × (went ≡ false)) → r ≢ Err Memory
no_memory went (Ok u) failed = λ e. cc
no_memory went (Err why) failed = let device : why ≡ Device = failed.0 in λ e. let no : Device ≡ Memory = cc in cc

pub permit_given : (part : List ℕ) (permissions : Option Permissions) (given : Permissions) (a b : Option (List Call)) (r : Result (Unit {0}) PutFault)
    → permissions ≡ Some given → Steps (Permit part (permissions_mode given) ∷ []) a b r → Steps (permits part (option_map permissions_mode permissions)) a b r
permit_given part permissions given a b r is h =
    subst (λ (p : Option Permissions). Steps (permits part (option_map permissions_mode p)) a b r) (sym is) h

pub step_as : (step other : Step) (a b : Option (List Call)) (r : Result (Unit {0}) PutFault) → step ≡ other → Steps (other ∷ []) a b r → Steps (step ∷ []) a b r
step_as step other a b r same h = subst (λ (s : Step). Steps (s ∷ []) a b r) (sym same) h

-- what came of a call is handed on as it is
pub steps_same : (xs : List Step) (a b : Option (List Call)) (why : PutFault) (r : Result (Unit {0}) PutFault) → IsErrAnd r (λ e. e ≡ why) → Steps xs a b (Err why)
    → Steps xs a b r
steps_same xs a b why (Ok u) same h = absurd same
steps_same xs a b why (Err e) same h = (same ∙ h.0, h.1, h.2, h.3)

-- ---- several

cut_before : (xs ys : List Step) (calls : List Call) → IsCut xs calls → IsCut (xs ++ ys) calls
cut_before xs ys calls cut = record {
  front = cut.front;
  failed = cut.failed;
  rest = cut.rest ++ ys;
  split = ap (λ (zs : List Step). zs ++ ys) cut.split ∙ append_assoc cut.front (cut.failed ∷ cut.rest) ys;
  called = cut.called;
}

cut_after : (xs ys : List Step) (calls : List Call) → IsCut ys calls → IsCut (xs ++ ys) (well xs ++ calls)
cut_after xs ys calls cut = record {
  front = xs ++ cut.front;
  failed = cut.failed;
  rest = cut.rest;
  split = ap (λ (zs : List Step). xs ++ zs) cut.split ∙ sym (append_assoc xs cut.front (cut.failed ∷ cut.rest));
  called =
      ap (λ (zs : List Call). well xs ++ zs) cut.called ∙ sym (append_assoc (well xs) (well cut.front) (cut.failed false ∷ []))
      ∙ ap (λ (zs : List Call). zs ++ cut.failed false ∷ []) (sym (well_more xs cut.front));
}

-- steps after others that all went well
pub steps_more : (xs ys : List Step) (a b c : Option (List Call)) (r : Result (Unit {0}) PutFault) → Called a b (well xs) → Steps ys b c r → Steps (xs ++ ys) a c r
steps_more xs ys a b c (Ok u) first last = subst (Called a c) (sym (well_more xs ys)) (called_more a b c (well xs) (well ys) first last)
steps_more xs ys a b c (Err why) first last =
    (last.0, well xs ++ last.1, called_more a b c (well xs) last.1 first last.2, cut_after xs ys last.1 last.3)

-- steps of which the first ones were cut, by the fault that is passed on
pub steps_cut : (xs ys : List Step) (a b : Option (List Call)) (why : PutFault) (r : Result (Unit {0}) PutFault) → IsErrAnd r (λ e. e ≡ why) → Steps xs a b (Err why)
    → Steps (xs ++ ys) a b r
steps_cut xs ys a b why (Ok u) same h = absurd same
steps_cut xs ys a b why (Err e) same h = (same ∙ h.0, h.1, h.2, cut_before xs ys h.1 h.3)

-- ---- a part that is taken away

pub taken_away : (steps : List ℕ → List Step) (path part same : List ℕ) (why : PutFault) (a b c : Option (List Call)) (removed : Bool) → part ≡ part_of path
    → same ≡ part_of path → Steps (steps part) a b (Err why) → Called b c (Remove same removed ∷ [])
    → (calls : List Call) × Called a c calls × StepsWith (part_of path) (steps (part_of path)) calls (Err why)
taken_away steps path part same why a b c removed is too h last =
    let cut : IsCut (steps (part_of path)) h.1 = subst (λ (p : List ℕ). IsCut (steps p) h.1) is h.3 in
    let gone : Called b c (Remove (part_of path) removed ∷ []) = subst (λ (p : List ℕ). Called b c (Remove p removed ∷ [])) too last in
    subst (λ (w : PutFault). (calls : List Call) × Called a c calls × StepsWith (part_of path) (steps (part_of path)) calls (Err w)) (sym h.0) (
      h.1 ++ Remove (part_of path) removed ∷ [],
      called_more a b c h.1 (Remove (part_of path) removed ∷ []) h.2 gone,
      (h.1, removed, cut, refl),
    )
