mod KindFacts
mod WordFacts
