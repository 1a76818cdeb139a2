mod ToolFacts
