-- Keys that stand in the queue.
use Rattle.std.specs.Prelude.{ℕ, ◌≡◌, List, All, Some, true}
use Rattle.ready_client.specs.declared.client.Client.{Client}
use Rattle.ready_client.specs.declared.client.Turn.TheVariants.{More}
use Rattle.ready_places.specs.Placed.{Placed, HasPlace, placed_at}
use Rattle.ready_places.specs.Queue.{is_queued}
use Rattle.ready_worker.specs.declared.notice.Notice.{Notice}

-- each key of these that has a place stands in the queue
abbrev pub AreQueued : {T : Type 0} → Placed T → List Notice → Type 0
AreQueued placed notices = All (λ notice. HasPlace placed notice.key → is_queued placed.queue notice.key ≡ true) notices

-- those that stood in it do so still
abbrev pub StayQueued : List ℕ → List ℕ → Type 0
StayQueued before now = (key : ℕ) → is_queued before key ≡ true → is_queued now key ≡ true

-- each client whose last turn left more to do stands in the queue
abbrev pub MoreAreQueued : {S K : Type 0} → Placed (Client S K) → Type 0
MoreAreQueued {S} {K} placed = (key : ℕ) (client : Client S K) → placed_at placed key ≡ Some client → client.last ≡ More → is_queued placed.queue key ≡ true
