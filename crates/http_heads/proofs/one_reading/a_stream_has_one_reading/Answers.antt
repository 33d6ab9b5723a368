-- The law, by the number of requests before it.
use Rattle.http_heads.proofs.ReadingLemmas.{requests_one, first_of_all}
use Rattle.http_heads.proofs.one_reading.a_stream_has_one_reading.Goals as goal

pub returns : goal.returns
returns c = record {
  one = λ all xs ys a b x y. requests_one 0 all xs ys a b x y;
  first = λ all xs ys rest a x y. first_of_all 0 all xs ys rest a x y;
}
