-- A contract that no second answer meets, said of the contract itself: `learnt` is what a caller learns of a call, by
-- the lifetimes κs, the arguments a, the result r and the parameters at exit s.
use Rattle.std.specs.Prelude.{◌≡◌}

module _ {K : Type 0} {A R S : K → Type 0} where
  -- the same arguments give the same result
  abbrev pub OneResult : ((κs : K) → A κs → R κs → S κs → Type 0) → Type 0
  OneResult learnt = (κs : K) (a : A κs) (r r' : R κs) (s s' : S κs) → learnt κs a r s → learnt κs a r' s' → r ≡ r'

  -- and leave the same in what `lent` reads of the parameters at exit
  abbrev pub OneAnswer : {L : Type 0} → ((κs : K) → A κs → R κs → S κs → Type 0) → ((κs : K) → S κs → L) → Type 0
  OneAnswer learnt lent =
      (κs : K) (a : A κs) (r r' : R κs) (s s' : S κs)
      → learnt κs a r s → learnt κs a r' s' → (r ≡ r') × (lent κs s ≡ lent κs s')

  -- the same arguments hand back the same, in what `held` reads of the result: a part's entries
  abbrev pub OnePart : {L : Type 0} → ((κs : K) → A κs → R κs → S κs → Type 0) → ((κs : K) → R κs → L) → Type 0
  OnePart learnt held =
      (κs : K) (a : A κs) (r r' : R κs) (s s' : S κs) → learnt κs a r s → learnt κs a r' s' → held κs r ≡ held κs r'
