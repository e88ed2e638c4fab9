-- Which numbers a process has left, and whether it has opened a block session.
use Rattle.std.proofs.Common.{ℕ, zero, suc, ◌≡◌, ◌<◌, ◌^◌, ◌↔◌, nat_lt, Bool, List, [], ◌∷◌, All, IsTrue, refl, sym, ap, subst, ◌∙◌, arith, Box, Global}
use Rattle.std.proofs.lemmas.Grind.{common_steps}
use Rattle.group_types.specs.Dimensions.{Dimensions}
use Rattle.group_types.specs.Hash.{home_of}
use Rattle.group_types.specs.Lists.{at}
use Rattle.group_types.specs.declared.process.ProcessId.{ProcessId}
use Rattle.group_types.specs.declared.process.ProcessId.TheVariants.{DataNode, ParityNode}
use Rattle.group_run.specs.Applying.{replica_of}
use Rattle.group_run.specs.Process.{Process}
use Rattle.group_run.specs.Replica.{Replica, empty_replica, last_of}
use Rattle.process_service.specs.Standing.{Standing}
use Rattle.group_node.specs.Asking.{HasNumbers, HasOpened}
use Rattle.group_node.specs.Roles.{IsNamed, standing_in}
use Rattle.group_node.specs.declared.process.Role.{Role}
use Rattle.group_node.specs.declared.process.Role.TheVariants.{Data, Parity}

-- what holds of the default too holds at each place
at-any : {X : Type 0} (P : X → Type 0) (e : X) (xs : List X) (i : ℕ) → P e → All P xs → P (at e xs i)
at-any P e [] i base all = base
at-any P e (x ∷ xs) zero base all = all 0 x (omega arith)
at-any P e (x ∷ xs) (suc i) base all = at-any P e xs i base (λ k d lt. all (suc k) d (omega (arith, lt)))

-- where the numbers of all partitions are low those of each are
pub all-low : (s : Dimensions) (key : List ℕ) (p : Process) → All (λ r. last_of r < 4611686018427387904) p.replicas
    → p.as_leader.last_session < 4611686018427387904 → HasNumbers s key p
all-low s key p updates sessions = record {
  updates = at-any (λ (r : Replica). last_of r < 4611686018427387904) empty_replica p.replicas (home_of key s.k) (omega arith) updates;
  sessions = λ i own. sessions;
}

-- two names that are one are of one role
apart : (d i : ℕ) → DataNode d ≡ ParityNode i → ⊥
apart d i same = cc same

module _ (role : Role) (q : Box Standing Global) (seen : Standing) (key : List ℕ) (b : Bool) (view : standing_in role ≡ seen) (named : IsNamed role) where
  -- what a data process tells of its numbers
  pub numbers-data : role ≡ Data q → (p : Standing) → p ≡ q.value → (IsTrue b ↔ last_of (replica_of p.process (home_of key p.shape.k)) < 2 ^ 62)
      → IsTrue b ↔ HasNumbers seen.shape key seen.process
  numbers-data is p held by_p =
      let told = subst (λ (v : Standing). IsTrue b ↔ last_of (replica_of v.process (home_of key v.shape.k)) < 2 ^ 62) held by_p in
      let name = subst IsNamed is named in
      subst (λ (v : Standing). IsTrue b ↔ HasNumbers v.shape key v.process) (sym (ap standing_in is) ∙ view) (
        λ left. record { updates = told.0 left; sessions = λ i other. absurd (apart name.0 i (sym name.1 ∙ other)) },
        λ numbers. told.1 numbers.updates,
      )

  -- what a parity process tells of them
  pub numbers-parity : role ≡ Parity q → (p : Standing) → p ≡ q.value
      → (IsTrue b ↔ (last_of (replica_of p.process (home_of key p.shape.k)) < 2 ^ 62) × (p.process.as_leader.last_session < 2 ^ 62))
      → IsTrue b ↔ HasNumbers seen.shape key seen.process
  numbers-parity is p held by_p =
      let told = subst (λ (v : Standing). IsTrue b ↔ (last_of (replica_of v.process (home_of key v.shape.k)) < 2 ^ 62)
      × (v.process.as_leader.last_session < 2 ^ 62)) held by_p in
      let name = subst IsNamed is named in
      subst (λ (v : Standing). IsTrue b ↔ HasNumbers v.shape key v.process) (sym (ap standing_in is) ∙ view) (
        λ left. let both = told.0 left in record { updates = both.0; sessions = λ i own. both.1 },
        λ numbers. told.1 (numbers.updates, numbers.sessions name.0 name.1),
      )

module _ (role : Role) (q : Box Standing Global) (seen : Standing) (view : standing_in role ≡ seen) (named : IsNamed role) where
  -- a data process has no sessions, and only a parity process has
  pub last-data : role ≡ Data q → (i : ℕ) → seen.process.name ≡ ParityNode i → ⊥
  last-data is i other =
      let name = subst IsNamed is named in
      apart name.0 i (sym name.1 ∙ ap (λ (v : Standing). v.process.name) (sym (ap standing_in is) ∙ view) ∙ other)

  pub last-parity : role ≡ Parity q → (d : ℕ) → seen.process.name ≡ DataNode d → ⊥
  last-parity is d other =
      let name = subst IsNamed is named in
      apart d name.0 (sym (sym name.1 ∙ ap (λ (v : Standing). v.process.name) (sym (ap standing_in is) ∙ view) ∙ other))

  pub last-is : (n : ℕ) → role ≡ Parity q → n ≡ q.value.process.as_leader.last_session → n ≡ seen.process.as_leader.last_session
  last-is n is number = number ∙ ap (λ (v : Standing). v.process.as_leader.last_session) (sym (ap standing_in is) ∙ view)

-- sessions were opened where a parity process's number rose
opened-told : (p q : Process) (a b : ℕ) → ((i : ℕ) → p.name ≡ ParityNode i → a ≡ p.as_leader.last_session) → ((d : ℕ) → p.name ≡ DataNode d → a ≡ 0)
    → ((i : ℕ) → q.name ≡ ParityNode i → b ≡ q.as_leader.last_session) → ((d : ℕ) → q.name ≡ DataNode d → b ≡ 0) → q.name ≡ p.name
    → (a < b) ↔ HasOpened p q
opened-told p q a b of_parity of_data to_parity to_data same = by p.name refl where
  by : (name : ProcessId) → p.name ≡ name → (a < b) ↔ HasOpened p q
  by (DataNode d) is = (
    λ more. let none = to_data d (same ∙ is) in absurd (omega (arith, more, none)),
    λ opened. absurd (apart d opened.leader (sym is ∙ opened.name)),
  )
  by (ParityNode i) is = let before = of_parity i is in let now = to_parity i (same ∙ is) in (
    λ more. record { leader = i; name = is; session = omega (arith, more, before, now) },
    λ opened. let session = opened.session in omega (arith, session, before, now),
  )

less-word : (m n : ℕ) → IsTrue (nat_lt m n) ↔ (m < n)
less-word m n = ((λ told. grind (arith, common_steps)), (λ less. grind (arith, common_steps)))

pub opened-word : (p q : Process) (a b : ℕ) → ((i : ℕ) → p.name ≡ ParityNode i → a ≡ p.as_leader.last_session) → ((d : ℕ) → p.name ≡ DataNode d → a ≡ 0)
    → ((i : ℕ) → q.name ≡ ParityNode i → b ≡ q.as_leader.last_session) → ((d : ℕ) → q.name ≡ DataNode d → b ≡ 0) → q.name ≡ p.name
    → IsTrue (nat_lt a b) ↔ HasOpened p q
opened-word p q a b of_parity of_data to_parity to_data same =
    let word = less-word a b in
    let told = opened-told p q a b of_parity of_data to_parity to_data same in
    (λ more. told.0 (word.0 more), λ opened. word.1 (told.1 opened))
