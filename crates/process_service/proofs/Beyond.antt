-- A partition beyond those of the group: it is followed under rank 0, and nobody heads it.
use Rattle.std.proofs.Common.{ℕ, ◌≡◌, ◌≤◌, nat_le, nat_lt, true, false, List, length, map, None, sym, ap, ◌∙◌, arith}
use Rattle.std.proofs.lemmas.Grind.{common_steps}
use Rattle.std.proofs.lemmas.List.{length-map}
use Rattle.group_types.specs.Lists.{at}
use Rattle.group_types.specs.declared.process.Rank.{Rank}
use Rattle.group_types.proofs.Lists.{at_behind}
use Rattle.group_message.specs.declared.message.Message.{Message}
use Rattle.group_message.specs.declared.message.Message.TheVariants as tells
use Rattle.group_types.specs.declared.process.Partition.{Partition}
use Rattle.group_run.specs.Process.{Process}
use Rattle.head_service.specs.Serving.{Serving, serving}
use Rattle.process_service.specs.Current.{is_current}
use Rattle.process_service.specs.Standing.{is_under}

low-le : (a b : ℕ) → a ≤ b → nat_le a b ≡ true
low-le a b low = grind (arith, common_steps)

pub followed-beyond : (own : List Rank) (ranks : List ℕ) (k n d r : ℕ) → map (λ (x : Rank). x.0) own ≡ ranks → length own ≡ k → n ≡ k → n ≤ d
    → nat_le n d ≡ nat_le (at 0 ranks d) r
followed-beyond own ranks k n d r are long is behind =
    let same = length-map own (λ (x : Rank). x.0) in
    let now = ap (λ (xs : List ℕ). length xs) are in
    low-le n d behind ∙ sym (ap (λ (y : ℕ). nat_le y r) (at_behind 0 ranks d (omega (arith, same, now, long, is, behind))) ∙ low-le 0 r (omega arith))

pub headed-beyond : (v w : Serving) (b : Process) (k n : ℕ) (m : Message) (r : Rank) (d : Partition) (number : ℕ)
    → m ≡ tells.Ack r d number → v ≡ w → length v.heads ≡ k
    → n ≡ k → n ≤ d.0 → nat_lt d.0 n ≡ is_current (serving w b) m
headed-beyond v w b k n m r d number is view long same behind =
    beyond ∙ sym (ap (is_current (serving w b)) is
    ∙ ap (is_under r.0) (ap (λ (x : Serving). at None x.heads d.0) (sym view) ∙ at_behind None v.heads d.0 (omega (arith, long, same, behind)))) where
      beyond : nat_lt d.0 n ≡ false
      beyond = grind (arith, common_steps)
