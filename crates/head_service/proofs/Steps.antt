-- A step of the machine's process, part by part.
use Rattle.std.proofs.Common.{ℕ, ◌≡◌, ◌<◌, nat_le, Bool, true, false, List, [], ◌++◌, length, Some, None, refl, sym, ap, ◌∙◌}
use Rattle.std.proofs.lemmas.List.{append-nil}
use Rattle.group_types.specs.Dimensions.{Dimensions}
use Rattle.group_types.specs.Lists.{at, put}
use Rattle.group_types.proofs.Lists.{at-put, put-at, put-put}
use Rattle.group_message.specs.declared.message.Message.TheVariants as tells
use Rattle.group_message.specs.declared.update.Update.{Update}
use Rattle.group_run.specs.Applying.{ProcessStep, Sent, and_then, apply_to, sending, bytes_after, replica_of}
use Rattle.group_run.specs.Asking.{CallStep, issue, issued, ticketed}
use Rattle.group_run.specs.Heading.{judge, judge_head, least_acked, other_parities, partition, rank, settle_to, settlements, to_parities}
use Rattle.group_run.specs.Process.{Head, Held, Process}
use Rattle.group_run.specs.Replica.{Replica, applied_to, empty_replica, last_of, up_to, with_update}
use Rattle.head_service.specs.Answering.{answer_to, held_then}
use Rattle.head_service.specs.Serving.{Serving, serving}

module _ (s : Dimensions) (d : ℕ) (b : Process) where
  -- a replica is applied up to a number
  abbrev pub applied_in : ℕ → Replica → Serving → Process
  applied_in n r v = serving (record v { replicas = put empty_replica v.replicas d (applied_to n r) }) (bytes_after s d (up_to n r) b)

  pub apply-is : (n : ℕ) (r : Replica) (v : Serving) → apply_to s d n (serving (record v { replicas = put empty_replica v.replicas d r }) b) ≡ applied_in n r v
  apply-is n r v =
      let here : at empty_replica (put empty_replica v.replicas d r) d ≡ r = at-put empty_replica empty_replica v.replicas d r in
      ap (λ (x : Replica).
      serving (record v { replicas = put empty_replica (put empty_replica v.replicas d r) d (applied_to n x) })
      (bytes_after s d (up_to n x) b)) here
      ∙ ap (λ (xs : List Replica). serving (record v { replicas = xs }) (bytes_after s d (up_to n r) b)) (put-put empty_replica v.replicas d r (applied_to n r))

  -- the number up to which it is settled
  abbrev pub reach : Serving → Head → Replica → ℕ
  reach v h r = least_acked h (last_of r) (other_parities s.m b.name v.known)

  -- the head judges
  abbrev pub judged : Serving → Head → Replica → ProcessStep
  judged v h r = record { process = applied_in (reach v h r) r v; sent = []; settled = settlements d (up_to (reach v h r) r) }

  pub judge-is : (h : Head) (r : Replica) (v : Serving) → at None v.heads d ≡ Some h
      → judge s d (serving (record v { replicas = put empty_replica v.replicas d r }) b) ≡ judged v h r
  judge-is h r v headed =
      let p : Process = serving (record v { replicas = put empty_replica v.replicas d r }) b in
      let here : at empty_replica (put empty_replica v.replicas d r) d ≡ r = at-put empty_replica empty_replica v.replicas d r in
      ap (judge_head s d p) headed
      ∙ ap (λ (x : Replica). settle_to s d (reach v h x) p) here
      ∙ ap (λ (q : Process). record { process = q; sent = []; settled = settlements d (up_to (reach v h r) (replica_of p d)) }) (apply-is (reach v h r) r v)
      ∙ ap (λ (x : Replica). record { process = applied_in (reach v h r) r v; sent = []; settled = settlements d (up_to (reach v h r) x) }) here

  module _ (h : Head) (u : Update) (v : Serving) (r : Replica) (headed : at None v.heads d ≡ Some h) (here : at empty_replica v.replicas d ≡ r) where
    abbrev grown : Replica
    grown = with_update u r

    -- what is sent
    abbrev pub told : List Sent
    told = to_parities (other_parities s.m b.name v.known) (tells.Update (rank h.rank) (partition d) u r.applied)

    abbrev pub issued_in : ProcessStep
    issued_in = record { process = applied_in (reach v h grown) grown v; sent = told; settled = settlements d (up_to (reach v h grown) grown) }

    issued-is : issued s d h u (serving v b) ≡ issued_in
    issued-is =
        ap (λ (x : Replica). and_then (sending (to_parities (other_parities s.m b.name v.known) (tells.Update (rank h.rank) (partition d) u x.applied))
        (serving (record v { replicas = put empty_replica v.replicas d (with_update u x) }) b)) (judge s d)) here
        ∙ ap (λ (step : ProcessStep). record { process = step.process; sent = told ++ step.sent; settled = step.settled }) (judge-is h grown v headed)
        ∙ ap (λ (sent : List Sent). record {
          process = applied_in (reach v h grown) grown v;
          sent = sent;
          settled = settlements d (up_to (reach v h grown) grown);
        }) (append-nil told)

    -- whether it is settled at once
    abbrev pub at_once : Bool
    at_once = nat_le u.number (applied_to (reach v h grown) grown).applied

    abbrev pub issue_in : CallStep
    issue_in = record {
      step = record {
        process = serving (record v {
          replicas = put empty_replica v.replicas d (applied_to (reach v h grown) grown);
          held = put [] v.held d (held_then at_once u (at [] v.held d));
        })
            (bytes_after s d (up_to (reach v h grown) grown) b);
        sent = told;
        settled = settlements d (up_to (reach v h grown) grown);
      };
      answer = answer_to at_once u;
    }

    pub issue-is : d < length v.held → issue s d h u (serving v b) ≡ issue_in
    issue-is within =
        ap (λ (step : ProcessStep). ticketed (nat_le u.number (replica_of step.process d).applied) d u step) issued-is
        ∙ ap (λ (x : Replica). ticketed (nat_le u.number x.applied) d u issued_in)
        (at-put empty_replica empty_replica v.replicas d (applied_to (reach v h grown) grown))
        ∙ by at_once where
          by : (now : Bool) → ticketed now d u issued_in ≡ record {
            step = record {
              process = serving
                  (record v {
                    replicas = put empty_replica v.replicas d (applied_to (reach v h grown) grown);
                    held = put [] v.held d (held_then now u (at [] v.held d));
                  })
                  (bytes_after s d (up_to (reach v h grown) grown) b);
              sent = told;
              settled = settlements d (up_to (reach v h grown) grown);
            };
            answer = answer_to now u;
          }
          by true = ap (λ (held : List (List Held)). record {
            step = record {
              process = serving (record v { replicas = put empty_replica v.replicas d (applied_to (reach v h grown) grown); held = held })
                  (bytes_after s d (up_to (reach v h grown) grown) b);
              sent = told;
              settled = settlements d (up_to (reach v h grown) grown);
            };
            answer = answer_to true u;
          }) (sym (put-at [] [] v.held d within))
          by false = refl
