use Rattle.plist_base.proofs.SinkSteps.{puts_as}
use Rattle.plist_binwrite.proofs.TreeObjects.{array_is, dictionary_is, of_array, of_dictionary, of_scalar}
use Rattle.plist_binwrite.proofs.send.put_object.Goals as goal

pub returns-in-StartArray : goal.returns-in-StartArray
returns-in-StartArray g c =
    of_array c.kind_at.ensures _ c.in-StartArray.is
    (λ ts s. puts_as (array_is c.args.plan.now s) c.put_collection.ensures)

pub returns-in-StartDictionary : goal.returns-in-StartDictionary
returns-in-StartDictionary g c =
    of_dictionary c.kind_at.ensures _ c.in-StartDictionary.is
    (λ ms s. puts_as (dictionary_is c.args.plan.now s) c.put_collection-in-StartDictionary.ensures)

pub returns-in-Some : goal.returns-in-Some
returns-in-Some g c = of_scalar _ c.in-Some.ensures.some c.put_scalar.ensures
