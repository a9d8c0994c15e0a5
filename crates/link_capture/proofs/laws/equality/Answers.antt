use Rattle.std.proofs.Common.{rules, ◌≡◌, Decides, refl, sym, ap, true≢false}
use Rattle.std.specs.Cmp.{unsigned_Decides}
use Rattle.std.proofs.lemmas.Bool.Decides.{Decides-and, Decides-like}
use Rattle.link_capture.specs.contracts.capture.NextPartialEq.TheImpl as of_next
use Rattle.link_capture.specs.contracts.error.InputErrorPartialEq.TheImpl as of_error
use Rattle.link_capture.specs.contracts.event.EventPartialEq.TheImpl as of_event
use Rattle.link_capture.specs.declared.capture.Next.{Next}
use Rattle.link_capture.specs.declared.capture.Next.TheVariants as nexts
use Rattle.link_capture.specs.declared.error.InputError.{InputError}
use Rattle.link_capture.specs.declared.event.Event.{Event}
use Rattle.link_capture.specs.Same.{IsSameNext}
use Rattle.link_capture.specs.Meaning.{meaning_of}
use Rattle.link_capture.proofs.laws.equality.Goals as goal

-- `==` of events
events : (a b : Event) → Decides (of_event.ghosts.eq a b) (meaning_of a ≡ meaning_of b)
events a b = search rules

-- `==` of errors
errors : (a b : InputError) → Decides (of_error.ghosts.eq a b) (a ≡ b)
errors a b = search rules

-- `==` of answers
answers : (a b : Next) → Decides (of_next.ghosts.eq a b) (IsSameNext a b)
answers (nexts.Unit event size) (nexts.Unit other n) = Decides-and _ _ (events event other) (unsigned_Decides size n)
answers (nexts.Wrong error) (nexts.Wrong other) = Decides-like _ (λ e. ap nexts.Wrong e) (λ h. cc) (errors error other)
answers nexts.More nexts.More = (λ _. refl, λ _. refl)
answers nexts.End nexts.End = (λ _. refl, λ _. refl)
answers a b = (λ h. absurd (true≢false (sym h)), λ h. absurd cc)

pub returns-clause-next : goal.returns-clause-next
returns-clause-next c = answers
