-- Each public function's contract permits one outcome alone: one result, and of the lent buffer one content.
use denote.Param.{number}
use Rattle.laws.proofs.Contracts.{One, both}
use Rattle.digits.specs.Signs.{Signs}
use Rattle.digits.specs.contracts.places.write_places.{F-post}
use Rattle.digits.proofs.digit.Reads as digit
use Rattle.digits.proofs.digit_value.Reads as digit_value
use Rattle.digits.proofs.read_field.Reads as read-field
use Rattle.digits.proofs.write_field.Reads as write-field
use Rattle.digits.proofs.places.write_places.Reads as write-places

pub digit_once : One digit.Post (λ κs r s. r)
digit_once κs a x y s t p q = both p q

pub digit_value_once : One digit_value.Post (λ κs r s. r)
digit_value_once κs a x y s t p q = both p q

pub read_field_once : One read-field.Post (λ κs r s. r)
read_field_once κs a x y s t p q = both p q

pub write_field_once : One write-field.Post (λ κs r s. s.0.now)
write_field_once κs a x y s t p q = both p q

-- for each function that gives what the closure writes for every number below the base
pub write_places_once : (B F fits laws fn d₁ d₂ d₃ d₄ f : _)
    → One (λ κs a r s. Signs B (F-post (number B) F fn d₁ d₂ d₃ d₄ a.1.1.1.1.0) f × write-places.Post B F fits laws fn d₁ d₂ d₃ d₄ κs a r s) (λ κs r s. s.0.now)
write_places_once B F fits laws fn d₁ d₂ d₃ d₄ f κs a x y s t p q = both (p.1.0 f p.0) (q.1.0 f q.0)
