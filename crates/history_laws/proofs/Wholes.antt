-- What a whole response is made of: replies to the exchange, which the last of them ends.
use Rattle.std.proofs.Common.{◌≡◌, ℕ, ◌<◌, List, [], ◌∷◌, ◌++◌, Some, length, sym, ap, ◌∙◌, append_assoc}
use Rattle.std.specs.List.{Contains}
use Rattle.history_laws.specs.Responses.{Response, whole_of}
use Rattle.history_laws.specs.Readings.{Noted}
use Rattle.history_laws.specs.Progress.{Reply, messages, Ending, Whole}
use Rattle.history_laws.specs.Exchanges.{Begun, begun, heard_for}
use Rattle.history_laws.specs.Justified.{Ends as EndsAs, Legal}
use Rattle.history_laws.proofs.Basis.{made-of}
use Rattle.history_laws.proofs.Going.{ends-whole}
use Rattle.history_laws.proofs.Openings.{ends-first}
use Rattle.history_laws.proofs.Places.{at-below}

-- What ended with a whole response has these replies, the last of which was heard in its last entry.
pub record EndsAll (l : List Noted) (o e : ℕ) (w : Response) (rs : List Reply) : Type 0 where
  pub exchange : Begun
  pub opened : begun l o ≡ Some exchange
  pub others : List Reply
  pub last : Reply
  pub all : rs ≡ others ++ last ∷ []
  pub listed : (r : Reply) → Contains rs r → Contains (heard_for l o) r
  pub number : last.number ≡ e
  pub whole : whole_of exchange.request (messages rs) ≡ Some w

-- of two lists that are one the last ones are
last-same : (xs ys : List Reply) (x y : Reply) → xs ++ x ∷ [] ≡ ys ++ y ∷ [] → x ≡ y
last-same [] [] x y e = cc
last-same [] (z ∷ []) x y e = cc
last-same [] (z ∷ v ∷ ys) x y e = cc
last-same (z ∷ []) [] x y e = cc
last-same (z ∷ v ∷ xs) [] x y e = cc
last-same (z ∷ xs) (v ∷ ys) x y e = last-same xs ys x y (tail e)
  where
    tail : z ∷ (xs ++ x ∷ []) ≡ v ∷ (ys ++ y ∷ []) → xs ++ x ∷ [] ≡ ys ++ y ∷ []
    tail f = cc

pub ends-all : (l : List Noted) (o e : ℕ) (w : Response) (rs : List Reply) → Legal l → EndsAs l o e (Whole w rs) → EndsAll l o e w rs
ends-all l o e w rs legal h =
    let it = ends-whole l o e w rs legal h in
    let made = it.turned.made in
    let r : Reply = record { number = e; sending = it.turned.sending; message = it.turned.message } in
    let last : r ≡ made.last =
    last-same _ (made.before ++ made.others) r made.last
    (made.split ∙ (ap (λ (v : List Reply). made.before ++ v) made.ends ∙ sym (append_assoc made.before made.others (made.last ∷ [])))) in
    record {
      exchange = it.turned.exchange;
      opened = it.opened;
      others = made.others;
      last = made.last;
      all = made.ends;
      listed = λ x has. made-of l o e w rs x legal h has;
      number = sym (ap (λ (r : Reply). r.number) last);
      whole = made.whole;
    }

-- an end has its number in the history
pub end-below : (l : List Noted) (o e : ℕ) (how : Ending) → EndsAs l o e how → e < length l
end-below l o e how h =
    let it = ends-first l o e how h in
    at-below l e it.0 it.1
