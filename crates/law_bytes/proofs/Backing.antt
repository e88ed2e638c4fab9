-- What the laws of sessions carry along a run gives what this crate asks of a state.
use Rattle.group_types.specs.Dimensions.{Dimensions}
use Rattle.group_types.proofs.Eaches.{each-weaker}
use Rattle.group_message.specs.declared.message.Message.{Message}
use Rattle.group_message.specs.declared.message.Message.TheVariants as tells
use Rattle.law_moves.specs.State.{State}
use Rattle.law_bytes.proofs.Held.{HoldsBytes}
use Rattle.law_bytes.proofs.LeadingWords.{SessionsFit}
use Rattle.law_bytes.proofs.TokensKeeping.{Carried}
use Rattle.law_bytes.proofs.Local.{Fact}
use Rattle.law_bytes.proofs.Kept.{Backed, IsLed}

led : (m : Message) → Fact m → IsLed m
led (tells.Mark session r block d n) fact = fact
led (tells.Block session bytes n) fact = fact
led (tells.Row session bytes stamp) fact = fact
led (tells.ReadBlock session block rows) fact = tt
led (tells.Update r d u stable) fact = tt
led (tells.Ack r d n) fact = tt
led (tells.Stable r d n) fact = tt
led (tells.Adopt r d base list) fact = tt
led (tells.Cease upto) fact = tt
led (tells.Notice dead) fact = tt

pub backed-from : (s : Dimensions) (v : State) → Carried s v → HoldsBytes s v → SessionsFit s v → Backed s v
backed-from s v carried bytes fits = record {
  members = carried.members;
  led = λ x q xin qin apart living. each-weaker Fact IsLed led (v.link x q) (carried.facts x q xin qin apart living);
  tokens = carried.tokens;
  bytes = bytes;
  fits = fits;
}
