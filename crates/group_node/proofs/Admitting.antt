-- What comes to a node is what can come to its process, by its role.
use Rattle.std.proofs.Common.{ℕ, ◌≡◌, ◌↔◌, Bool, IsTrue, sym, ap, subst, ◌∙◌, Box, Global}
use Rattle.group_types.specs.Dimensions.{Dimensions}
use Rattle.group_types.specs.declared.process.ProcessId.{ProcessId}
use Rattle.group_types.specs.declared.process.ProcessId.TheVariants.{DataNode, ParityNode}
use Rattle.group_message.specs.declared.message.Message.{Message}
use Rattle.group_message.specs.declared.message.Message.TheVariants as tells
use Rattle.group_run.specs.Process.{Process}
use Rattle.group_run.specs.Fitting.{IsForData, IsForParity}
use Rattle.law_answers.specs.Deliveries.{IsFor}
use Rattle.process_service.specs.Current.{IsNoMark}
use Rattle.process_service.specs.Standing.{Standing}
use Rattle.data_process.specs.Coming as to_data
use Rattle.parity_process.specs.Coming as to_parity
use Rattle.group_node.specs.Delivering.{Comes}
use Rattle.group_node.specs.Roles.{IsNamed, standing_in}
use Rattle.group_node.specs.declared.process.Role.{Role}
use Rattle.group_node.specs.declared.process.Role.TheVariants.{Data, Parity}

module _ (s : Dimensions) (from : ProcessId) (p : Process) (d : ℕ) (name : p.name ≡ DataNode d) where
  data-comes : (m : Message) → to_data.FitsData s from m p → Comes s from m p
  data-comes (tells.Update r e u stable) can = absurd can.kind
  data-comes (tells.Ack r e n) can = record { fits = can.fits; kind = subst (λ (x : ProcessId). IsFor x (tells.Ack r e n)) (sym name) tt; group = tt }
  data-comes (tells.Stable r e n) can = absurd can.kind
  data-comes (tells.Adopt r e base list) can = absurd can.kind
  data-comes (tells.ReadBlock session block rows) can = record {
    fits = can.fits;
    kind = subst (λ (x : ProcessId). IsFor x (tells.ReadBlock session block rows)) (sym name) tt;
    group = tt;
  }
  data-comes (tells.Block session bytes n) can = absurd can.kind
  data-comes (tells.Mark session r block e n) can = absurd can.kind
  data-comes (tells.Row session bytes stamp) can = absurd can.kind
  data-comes (tells.Cease upto) can = absurd can.kind
  data-comes (tells.Notice dead) can = record { fits = can.fits; kind = subst (λ (x : ProcessId). IsFor x (tells.Notice dead)) (sym name) tt; group = can.few }

  comes-data : (m : Message) → Comes s from m p → to_data.FitsData s from m p
  comes-data (tells.Update r e u stable) comes = absurd (subst (λ (x : ProcessId). IsFor x (tells.Update r e u stable)) name comes.kind)
  comes-data (tells.Ack r e n) comes = record { fits = comes.fits; kind = tt; few = tt }
  comes-data (tells.Stable r e n) comes = absurd (subst (λ (x : ProcessId). IsFor x (tells.Stable r e n)) name comes.kind)
  comes-data (tells.Adopt r e base list) comes = absurd (subst (λ (x : ProcessId). IsFor x (tells.Adopt r e base list)) name comes.kind)
  comes-data (tells.ReadBlock session block rows) comes = record { fits = comes.fits; kind = tt; few = tt }
  comes-data (tells.Block session bytes n) comes = absurd (subst (λ (x : ProcessId). IsFor x (tells.Block session bytes n)) name comes.kind)
  comes-data (tells.Mark session r block e n) comes = absurd (subst (λ (x : ProcessId). IsFor x (tells.Mark session r block e n)) name comes.kind)
  comes-data (tells.Row session bytes stamp) comes = absurd (subst (λ (x : ProcessId). IsFor x (tells.Row session bytes stamp)) name comes.kind)
  comes-data (tells.Cease upto) comes = absurd (subst (λ (x : ProcessId). IsFor x (tells.Cease upto)) name comes.kind)
  comes-data (tells.Notice dead) comes = record { fits = comes.fits; kind = tt; few = comes.group }

-- no mark is for a data process
unmarked : (m : Message) → IsForData m → IsNoMark m
unmarked (tells.Update r d u stable) kind = tt
unmarked (tells.Ack r d n) kind = tt
unmarked (tells.Stable r d n) kind = tt
unmarked (tells.Adopt r d base list) kind = tt
unmarked (tells.ReadBlock session block rows) kind = tt
unmarked (tells.Block session bytes n) kind = tt
unmarked (tells.Mark session r block d n) kind = absurd kind
unmarked (tells.Row session bytes stamp) kind = tt
unmarked (tells.Cease upto) kind = tt
unmarked (tells.Notice dead) kind = tt

pub data-unmarked : (role : Role) (q : Box Standing Global) (seen : Standing) (m : Message) → standing_in role ≡ seen → IsNamed role
    → role ≡ Data q → IsFor seen.process.name m → IsNoMark m
data-unmarked role q seen m view named is kind =
    let name = subst IsNamed is named in
    unmarked m (subst (λ (x : ProcessId). IsFor x m) (ap (λ (v : Standing). v.process.name) (sym view ∙ ap standing_in is) ∙ name.1) kind)

-- a kind is for a parity process by either word
for-parity : (name : ProcessId) (i : ℕ) (m : Message) → name ≡ ParityNode i → IsForParity name m ↔ IsFor name m
for-parity name i (tells.Update r d u stable) is = (λ any. subst (λ (x : ProcessId). IsFor x (tells.Update r d u stable)) (sym is) tt, λ any. tt)
for-parity name i (tells.Ack r d n) is = (λ any. subst (λ (x : ProcessId). IsFor x (tells.Ack r d n)) (sym is) tt, λ any. tt)
for-parity name i (tells.Stable r d n) is = (λ any. subst (λ (x : ProcessId). IsFor x (tells.Stable r d n)) (sym is) tt, λ any. tt)
for-parity name i (tells.Adopt r d base list) is = (λ any. subst (λ (x : ProcessId). IsFor x (tells.Adopt r d base list)) (sym is) tt, λ any. tt)
for-parity name i (tells.ReadBlock session block rows) is = (
  λ no. absurd no,
  λ no. subst (λ (x : ProcessId). IsFor x (tells.ReadBlock session block rows)) is no,
)
for-parity name i (tells.Block session bytes n) is = (
  λ own. subst (λ (x : ProcessId). IsFor x (tells.Block session bytes n)) (sym is) (own ∙ is),
  λ own. subst (λ (x : ProcessId). IsFor x (tells.Block session bytes n)) is own ∙ sym is,
)
for-parity name i (tells.Mark session r block d n) is = (λ any. subst (λ (x : ProcessId). IsFor x (tells.Mark session r block d n)) (sym is) tt, λ any. tt)
for-parity name i (tells.Row session bytes stamp) is = (
  λ own. subst (λ (x : ProcessId). IsFor x (tells.Row session bytes stamp)) (sym is) (own ∙ is),
  λ own. subst (λ (x : ProcessId). IsFor x (tells.Row session bytes stamp)) is own ∙ sym is,
)
for-parity name i (tells.Cease upto) is = (λ any. subst (λ (x : ProcessId). IsFor x (tells.Cease upto)) (sym is) tt, λ any. tt)
for-parity name i (tells.Notice dead) is = (λ any. subst (λ (x : ProcessId). IsFor x (tells.Notice dead)) (sym is) tt, λ any. tt)

module _ (role : Role) (q : Box Standing Global) (seen : Standing) (from : ProcessId) (m : Message) (b : Bool) (view : standing_in role ≡ seen) (named : IsNamed role) where
  -- what a data process tells
  pub told-data : role ≡ Data q → (p : Standing) → p ≡ q.value → (IsTrue b ↔ to_data.FitsData p.shape from m p.process) → IsTrue b ↔ Comes seen.shape from m seen.process
  told-data is p held by_p =
      let told = subst (λ (v : Standing). IsTrue b ↔ to_data.FitsData v.shape from m v.process) held by_p in
      let name = subst IsNamed is named in
      subst (λ (v : Standing). IsTrue b ↔ Comes v.shape from m v.process) (sym (ap standing_in is) ∙ view)
      (λ yes. data-comes q.value.shape from q.value.process name.0 name.1 m (told.0 yes), λ comes. told.1 (comes-data q.value.shape from q.value.process name.0 name.1 m comes))

  -- what a parity process tells
  pub told-parity : role ≡ Parity q → (p : Standing) → p ≡ q.value → (IsTrue b ↔ to_parity.FitsParity p.shape from m p.process) → IsTrue b ↔ Comes seen.shape from m seen.process
  told-parity is p held by_p =
      let told = subst (λ (v : Standing). IsTrue b ↔ to_parity.FitsParity v.shape from m v.process) held by_p in
      let name = subst IsNamed is named in
      let kinds = for-parity q.value.process.name name.0 m name.1 in
      subst (λ (v : Standing). IsTrue b ↔ Comes v.shape from m v.process) (sym (ap standing_in is) ∙ view) (
        λ yes. let can = told.0 yes in record { fits = can.fits; kind = kinds.0 can.kind; group = can.group },
        λ comes. told.1 (record { fits = comes.fits; kind = kinds.1 comes.kind; group = comes.group }),
      )
